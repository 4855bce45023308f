use Rattle.std.proofs.Common.{take, sym, ap, ◌∙◌}
use Rattle.esc_frame.specs.Machine.Keeps.{next_form}
use Rattle.esc_frame.proofs.ByteRuns.DigitRuns.{digits_forms, taken_some}
use Rattle.esc_frame.proofs.unfinished.body.CsiBody.push_digits.Goals as goal

pub returns-clause-keeps : goal.returns-clause-keeps
returns-clause-keeps c = λ x h.
    let bs = c.args.bytes.now in
    let n = c.push_digits.result in (
      c.push_digits.ensures.keeps x h.0,
      c.next-self.ensures ∙ ap (λ f. next_form f 0x30) h.1 ∙ sym
          (digits_forms x (take n bs)
          (taken_some bs n c.push_digits.ensures.count.0 c.push_digits.ensures.count.1)
          c.push_digits.ensures.digits),
    )
