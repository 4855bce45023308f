use Rattle.std.proofs.Common.{length, length-drop, take, drop, ap, sym, subst, arith}
use Rattle.esc_account.specs.Passing.{IsPassing}
use Rattle.esc_account.specs.Rules.{rule_of}
use Rattle.esc_account.proofs.AtOnce.CharactersPass.{both_pass}
use Rattle.esc_account.proofs.Lines.BytesAreTheSame.{take_plus}
use Rattle.esc_account.proofs.text.text_run.Goals as goal

pub loop-at-preserved : goal.loop-at-preserved
loop-at-preserved g c =
    let s = c.args.bytes.now in
    let at = c.loop-at.at in
    let n = c.run_ahead-run.result.0 in
    let b = c.args.before in
    let last = c.loop-at.last in
    let next = c.run_ahead-run.result.1 in record {
      few = omega (
        arith,
        c.loop-at.invariant.few,
        c.run_ahead-run.ensures.few,
        ap length c.after.ensures,
        length-drop at s,
      );
      pass = λ by_lines u limit.
          let r = rule_of by_lines u limit (g.P.Admit.admits c.args.policy.now) in
          subst (λ v. IsPassing r b v next) (sym (take_plus at n s))
          (both_pass r b last next (take at s) (take n (drop at s))
          (c.loop-at.invariant.pass by_lines u limit)
          (subst (λ v. IsPassing r last (take n v) next) c.after.ensures
          (c.run_ahead-run.ensures.pass by_lines u limit)));
    }
