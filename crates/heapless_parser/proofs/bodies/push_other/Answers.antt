use Rattle.std.proofs.Common.{rules, ◌∙◌, ◌++◌, ap}
use Rattle.esc_frame.specs.Machine.Keeps.{next_form, params_with}
use Rattle.heapless_parser.specs.Numbers.{form_numbered}
use Rattle.heapless_parser.proofs.InChunks.BodyBytes.{other_more}
use Rattle.heapless_parser.proofs.bodies.push_other.Goals as goal

pub returns : goal.returns
returns c = record {
  body = λ x h.
      let q = record c.add.new.parser { form = c.number_of_form-parser.result } in
      other_more c.args.parser.now q c.args.byte x h
      (c.number_of_form-parser.ensures ∙ c.next.ensures
      ∙ ap (λ f. next_form f c.args.byte)
      (c.form_of.ensures ∙ ap form_numbered (c.add.ensures.same.0 ∙ c.close.ensures.same.0)))
      c.requires (c.add.ensures.number ∙ c.close.ensures.number)
      (λ o all n k. c.add.ensures.first (all ++ params_with o) (c.close.ensures.first o all n k));
  same = search rules;
}
