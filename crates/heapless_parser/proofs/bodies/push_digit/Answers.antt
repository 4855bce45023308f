use Rattle.std.proofs.Common.{rules, ◌∙◌, ◌+◌, ◌-◌, ◌*◌, true, ap, refl}
use Rattle.esc_frame.proofs.Steps.ParamsGrow.{digit_yes}
use Rattle.esc_frame.specs.Bodies.{capped_at_i64}
use Rattle.esc_frame.specs.Machine.Keeps.{next_form}
use Rattle.heapless_parser.proofs.InChunks.BodyBytes.{digit_more}
use Rattle.heapless_parser.proofs.bodies.push_digit.Goals as goal

pub returns : goal.returns
returns c = record {
  body = λ x h.
      let p = c.args.parser.now in
      let q = record p {
        number = c.next_number-parser.result;
        is_open = true;
        form = c.number_of_form-parser.result;
      } in
      digit_more p q c.args.byte x h
      (c.number_of_form-parser.ensures ∙ c.next.ensures
      ∙ ap (λ f. next_form f c.args.byte) c.form_of.ensures)
      (digit_yes c.args.byte c.requires.low c.requires.high) refl refl refl refl
      (λ o n. c.next_number-parser.ensures.value
      ∙ ap (λ n. capped_at_i64 (10 * n + (c.args.byte - 0x30)))
      (c.number_so_far.ensures.value o n));
  same = search rules;
}
