use Rattle.std.proofs.Common.{◌≡◌, ◌-◌, ◌++◌, false, List, ℕ, Some, length, take, drop, refl, sym, ◌∙◌, subst, arith}
use Rattle.esc_frame.proofs.ByteRuns.CsiRuns.{run_joins}
use Rattle.esc_frame.proofs.ByteRuns.ManyBytes.{tail_length}
use Rattle.caret_notation.proofs.Filters.VerdictOfJudge.{on_any}
use Rattle.caret_notation.proofs.Spans.GroundIsTested.{ground_test}
use Rattle.caret_notation.proofs.Spans.MoreOfSpan.{quiet_more}
use Rattle.caret_notation.specs.Judged.{HasJudged}
use Rattle.caret_notation.specs.Spans.{is_at_ground}
use Rattle.caret_notation.proofs.judge.judge_up_to_end.Goals as goal

-- the bytes from a place on
abbrev tail : List ℕ → ℕ → List ℕ
tail bytes at = take (length bytes - at) (drop at bytes)

pub loop-at-init : goal.loop-at-init
loop-at-init g c = record {
  within = omega arith;
  judged = λ limit h. (h, refl);
  quiet = λ limit h. (λ k a b. absurd (omega (arith, b)), λ a. absurd (omega (arith, a)));
}

-- the facts about the bytes so far, and about those that came now
pub loop-at-preserved : goal.loop-at-preserved
loop-at-preserved g c =
    let bs = c.args.bytes.now in
    let at = c.loop-at.at in
    let n = c.in_ok-n.n in
    let inv = c.loop-at.invariant in
    let l = tail_length bs at in
    record {
      within = omega (arith, c.in_ok-n.ensures.count, l, inv.within);
      judged = λ limit h.
          let k = inv.judged limit h in
          let more = c.in_ok-n.ensures.given limit (take at bs) k.0 in (
            subst (λ s. HasJudged g.P.Admit limit s c.judge_some.new.framer
                c.judge_some.new.performer) (run_joins bs at n) more.0,
            more.1 ∙ k.1,
          );
      quiet = λ limit h.
          let k = inv.judged limit h in
          let q = inv.quiet limit h in
          let more = c.in_ok-n.ensures.given limit (take at bs) k.0 in
          let test = ground_test c.is_ground.result (take at bs ++ take n (tail bs at))
          (c.is_ground.ensures.ground (Some limit) (take at bs ++ take n (tail bs at))
          more.0.framed) in (
            quiet_more (Some limit) bs at n q.0 q.1 more.2,
            λ a. subst (λ s. is_at_ground s ≡ false) (run_joins bs at n)
                (sym test ∙ c.if-is_ground.false),
          );
    }

pub returns-then-is_ground-clause-given : goal.returns-then-is_ground-clause-given
returns-then-is_ground-clause-given g c = λ limit h.
    let bs = c.args.bytes.now in
    let at = c.loop-at.at in
    let n = c.in_ok-n.n in
    let k = c.loop-at.invariant.judged limit h in
    let q = c.loop-at.invariant.quiet limit h in
    let more = c.in_ok-n.ensures.given limit (take at bs) k.0 in (
      subst (λ s. HasJudged g.P.Admit limit s c.judge_some.new.framer c.judge_some.new.performer)
          (run_joins bs at n) more.0,
      more.1 ∙ k.1,
      quiet_more (Some limit) bs at n q.0 q.1 more.2,
    )

pub returns-clause-given : goal.returns-clause-given
returns-clause-given g c = λ limit h.
    let k = c.loop-at.invariant.judged limit h in
    (k.0, k.1, (c.loop-at.invariant.quiet limit h).0)

pub returns-in_err-n-clause-refused : goal.returns-in_err-n-clause-refused
returns-in_err-n-clause-refused g c = λ limit h.
    on_any c.from_residual.result
    (c.in_err-n.ensures.refused limit (take c.loop-at.at c.args.bytes.now)
    (c.loop-at.invariant.judged limit h).0)
