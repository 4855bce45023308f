use Rattle.std.proofs.Common.{None, take, refl, sym, ◌∙◌, subst, arith}
use Rattle.esc_frame.specs.Machine.Keeps.{AreFirst, number_at, number_of_run}
use Rattle.esc_frame.proofs.ByteRuns.DigitRuns.{number_next, digits_first, digits_more, digits_csi_params, digits_value, taken_some}
use Rattle.esc_frame.proofs.unfinished.csi_params.Params.push_digits.Goals as goal

pub loop-end-init : goal.loop-end-init
loop-end-init c =
    let bs = c.args.bytes.now in (
      omega arith,
      omega arith,
      c.next_number-number.ensures.small,
      digits_first bs c.requires.digit.some c.requires.digit.low c.requires.digit.high,
      λ o h. c.next_number-number.ensures.value ∙ number_next (number_at o) bs 0 _
          c.requires.digit.some
          (c.number_so_far.ensures.value o h),
    )

pub loop-end-preserved : goal.loop-end-preserved
loop-end-preserved c =
    let bs = c.args.bytes.now in
    let i = c.loop-end.end in
    let so = c.loop-end.invariant in (
      omega arith,
      omega arith,
      c.next_number-number-in-loop-end.ensures.small,
      digits_more bs i (omega arith) (omega arith) (omega arith) so.3,
      λ o h. c.next_number-number-in-loop-end.ensures.value
          ∙ number_next (number_at o) bs i _ (omega arith) (so.4 o h),
    )

pub returns-clause-keeps : goal.returns-clause-keeps
returns-clause-keeps c = λ x h.
    let bs = c.args.bytes.now in
    let i = c.loop-end.end in
    let so = c.loop-end.invariant in
    let some = taken_some bs i (omega arith) so.1 in (
      subst (λ all.
          AreFirst c.args.self.now.items c.args.self.now.is_truncated c.args.self.now.limit all)
          (sym (digits_csi_params x (take i bs) some so.3)) h.0,
      rw (digits_value x (take i bs) some so.3) (refl, so.4 (number_of_run None x) h.1),
      h.2,
    )
