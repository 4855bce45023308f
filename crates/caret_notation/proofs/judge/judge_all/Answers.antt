use Rattle.std.proofs.Common.{◌++◌, take, refl, sym, ap, ◌∙◌, subst, append-nil, append_assoc, arith}
use Rattle.esc_frame.proofs.ByteRuns.CsiRuns.{run_joins}
use Rattle.esc_frame.proofs.ByteRuns.ManyBytes.{tail_length}
use Rattle.caret_notation.proofs.Filters.VerdictOfJudge.{on_any}
use Rattle.caret_notation.specs.Judged.{HasJudged}
use Rattle.caret_notation.proofs.judge.judge_all.Goals as goal

pub loop-at-init : goal.loop-at-init
loop-at-init g c = record {
  within = omega arith;
  judged = λ limit s h. (
    subst (λ x. HasJudged g.P.Admit limit x c.args.framer.now c.args.performer.now)
        (sym (append-nil s)) h,
    refl,
  );
}

-- the facts about the bytes so far, and about those that came now
pub loop-at-preserved : goal.loop-at-preserved
loop-at-preserved g c =
    let bs = c.args.bytes.now in
    let at = c.loop-at.at in
    let n = c.in_ok-n.n in
    let inv = c.loop-at.invariant in
    record {
      within = omega (arith, c.in_ok-n.ensures.count, tail_length bs at, inv.within);
      judged = λ limit s h.
          let k = inv.judged limit s h in
          let more = c.in_ok-n.ensures.given limit (s ++ take at bs) k.0 in (
            subst (λ x. HasJudged g.P.Admit limit x c.judge_some.new.framer
                c.judge_some.new.performer)
                (append_assoc s (take at bs) _ ∙ ap (λ x. s ++ x) (run_joins bs at n)) more.0,
            more.1 ∙ k.1,
          );
    }

pub returns-in_err-n-clause-refused : goal.returns-in_err-n-clause-refused
returns-in_err-n-clause-refused g c = λ limit s h.
    on_any c.from_residual.result
    (c.in_err-n.ensures.refused limit (s ++ take c.loop-at.at c.args.bytes.now)
    (c.loop-at.invariant.judged limit s h).0)
