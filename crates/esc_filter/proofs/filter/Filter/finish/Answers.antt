use Rattle.std.proofs.Common.{◌++◌, Some, sym, ap, ◌∙◌}
use Rattle.esc_filter.proofs.GivingBack.GivingBackIsWritable.{closing_text, same_text}
use Rattle.esc_filter.specs.Closing.{keeps_cursor}
use Rattle.esc_filter.specs.Fed.{policy_of}
use Rattle.esc_filter.specs.GivenBack.{text_given_back}
use Rattle.esc_filter.specs.Passing.{in_lines, passed_as}
use Rattle.esc_filter.proofs.filter.Filter.finish.Goals as goal

pub returns-in-Ok-clause-ended : goal.returns-in-Ok-clause-ended
returns-in-Ok-clause-ended g c = λ b u limit s h.
    let admits = g.P.Admit.admits (policy_of c.args.self.now) in
    let vs = passed_as u (Some limit) (in_lines b admits) s in
    let left = c.args.self.now.written.left in (
      c.restart.ensures.fed b u limit s (h.0, h.1),
      c.in-Ok.ensures.ok
          ∙ ap (λ t. t ++ text_given_back c.keeps_cursor_of-keeps_cursor.result left)
          c.emptied-text.ensures
          ∙ ap (λ k. text_given_back k left) c.keeps_cursor_of-keeps_cursor.ensures
          ∙ same_text (keeps_cursor admits) left
          ∙ ap (text_given_back (keeps_cursor admits)) h.1.1 ∙ sym (closing_text admits vs),
    )
