use Rattle.std.proofs.Common.{◌++◌, false, ap, sym, ◌∙◌}
use Rattle.esc_sequences.specs.Csis.{csi_of}
use Rattle.esc_normal.proofs.Spelling.{plain_given}
use Rattle.esc_filter.proofs.GivingBack.RenditionsAfterSequence.{plain_sgr}
use Rattle.esc_filter.proofs.GivingBack.ChangesAreNoted.{one_written}
use Rattle.esc_filter.proofs.written.Written.append_rendition.Goals as goal

pub returns-in-Ok-clause-taken : goal.returns-in-Ok-clause-taken
returns-in-Ok-clause-taken g c = λ _.
    let p = c.args.self.now in
    let es = c.args.params.now in
    let (v, one, after, pens) = c.note_short.ensures in (
      plain_sgr c.in-Some.numbers es c.in-Some.ensures.params,
      (
        v,
        one,
        one_written (csi_of es false 0x6d) v p _ c.pen_after_final-self.result
            c.write_short.new.self one after (c.pen_after_final-self.ensures ∙ pens p.pen)
            (plain_given p.spell c.write_short.new.self es false 0x6d
            (c.in-Some.ensures.plain false) (
              c.in-Ok.ensures.ok.0
                  ∙ ap (λ t. p.spell.text ++ t) (sym (c.in-Some.ensures.text false)),
              c.in-Ok.ensures.ok.1,
            )),
      ),
    )

pub returns-in-Err-clause-refused : goal.returns-in-Err-clause-refused
returns-in-Err-clause-refused g c = (c.in-Some.ensures.plain false, c.in-Err.ensures.refused)
