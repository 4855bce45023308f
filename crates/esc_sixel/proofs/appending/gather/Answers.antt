use Rattle.std.proofs.Common.{◌+◌, ◌++◌, ◌∙◌, [], ap, refl, arith, subst, sym, take}
use Rattle.std.specs.Str.{IsAscii}
use Rattle.esc_sixel.proofs.Writing.TextIsGathered.{one_more, text_more}
use Rattle.esc_sixel.specs.Texts.{data_text}
use Rattle.esc_sixel.proofs.appending.gather.Goals as goal

pub items-preserved : goal.items-preserved
items-preserved c =
    let at = c.items.count + c.put_pixels-run.result in
    let item = c.index-content-count.result in (
      omega arith,
      (
        c.in-Some.ensures.puts.0,
        (
          c.in-Some.ensures.puts.1.ascii,
          c.in-Some.ensures.puts.1.text
              ∙ ap (λ t. t ++ data_text item)
              (text_more [] _ _ _ c.args.content.now c.items.count c.put_pixels-run.result
              c.items.invariant.1.1.1 c.put_pixels-run.ensures.puts.text refl)
              ∙ one_more c.args.content.now at item c.index-content-count.is (omega arith),
        ),
      ),
    )

pub returns-then-count-content-clause-puts : goal.returns-then-count-content-clause-puts
returns-then-count-content-clause-puts c = record {
  ascii = c.put_pixels-run.ensures.puts.ascii;
  text = text_more [] _ _ _ c.args.content.now c.items.count c.put_pixels-run.result
      c.items.invariant.1.1.1 c.put_pixels-run.ensures.puts.text refl;
}

pub returns-in-None-clause-puts : goal.returns-in-None-clause-puts
returns-in-None-clause-puts c = record {
  ascii = subst IsAscii (sym (c.in-None.ensures.none refl)) c.put_pixels-run.ensures.puts.ascii;
  text = ap (take (c.items.end + c.put_pixels-run.result)) (c.in-None.ensures.none refl)
      ∙ text_more [] _ _ _ c.args.content.now c.items.count c.put_pixels-run.result
      c.items.invariant.1.1.1 c.put_pixels-run.ensures.puts.text refl;
}
