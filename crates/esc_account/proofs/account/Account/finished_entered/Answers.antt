use Rattle.std.proofs.Common.{◌≡◌, ◌++◌, ◌-◌, length, drop, length-drop, ap, sym, ◌∙◌, subst, arith}
use Rattle.esc_frame.specs.Segments.{joined_bytes}
use Rattle.esc_account.specs.Finished.{Finishes, IsLast}
use Rattle.esc_account.proofs.Entries.FinishedAreEntered.{dropped, finishes_both, takes_both}
use Rattle.esc_account.proofs.account.Account.finished_entered.Goals as goal

pub loop-longer-preserved : goal.loop-longer-preserved
loop-longer-preserved g c =
    let ends = c.args.ends in
    let r = g.J.Judge.rule c.args.judge.now in
    let at = c.loop-longer in
    let t = at.rest.now in
    let u = c.after-rest.result.now in
    let y = c.in_ok-longer.longer in
    let next = c.in_ok-longer.ensures.finishes in
    let counts = c.in_ok-longer.ensures.counts.0 in
    let long = ap length c.after-rest.ensures ∙ length-drop c.in_ok-longer.count t in
    let before = at.invariant.finishes in record {
      sums = omega (arith, at.invariant.sums, counts, long);
      lines = omega (arith, at.invariant.lines, counts, long);
      few = omega (arith, at.invariant.few, long);
      finishes = (
        before.0 ++ next.0,
        finishes_both ends r c.args.self at.account y c.args.bytes.now t u before.0 next.0 before.1
            (subst (λ v. Finishes ends r at.account t v y next.0) (sym c.after-rest.ensures)
            next.1),
        λ es old. takes_both (g.B.Book.was_given c.next_entered.new.book) es before.0 next.0
            (next.2 (es ++ before.0) (before.2 es old)),
      );
    }

pub returns-then-count-eq0-clause-finishes : goal.returns-then-count-eq0-clause-finishes
returns-then-count-eq0-clause-finishes g c =
    let ends = c.args.ends in
    let r = g.J.Judge.rule c.args.judge.now in
    let at = c.loop-longer in
    let s = c.args.bytes.now in
    let t = at.rest.now in
    let u = c.after-rest.result.now in
    let y = c.in_ok-longer.longer in
    let next = c.in_ok-longer.ensures.finishes in
    let long = ap length c.after-rest.ensures ∙ length-drop c.in_ok-longer.count t in
    let before = at.invariant.finishes in
    let both = finishes_both ends r c.args.self at.account y s t u before.0 next.0 before.1
    (subst (λ v. Finishes ends r at.account t v y next.0) (sym c.after-rest.ensures) next.1) in (
      before.0 ++ next.0,
      subst (λ v. Finishes ends r c.args.self s v y (before.0 ++ next.0))
          (sym (dropped s (joined_bytes both.shapes) u (length s - length u) both.whole
          (omega (arith, at.invariant.few, long)))) both,
      λ es old. takes_both (g.B.Book.was_given c.next_entered.new.book) es before.0 next.0
          (next.2 (es ++ before.0) (before.2 es old)),
    )

pub returns-then-count-eq0-clause-last : goal.returns-then-count-eq0-clause-last
returns-then-count-eq0-clause-last g c =
    let at = c.loop-longer in
    let s = c.args.bytes.now in
    let t = at.rest.now in
    let u = c.after-rest.result.now in
    let none : c.in_ok-longer.count ≡ 0 = omega (arith, c.if-count-eq0.true) in
    let same : u ≡ t = c.after-rest.ensures ∙ ap (λ n. drop n t) none in
    let before = at.invariant.finishes.1 in
    let place = dropped s (joined_bytes before.shapes) t (length s - length u) before.whole
    (omega (arith, at.invariant.few, ap length same)) in
    subst (IsLast c.args.ends) (sym place) (c.in_ok-longer.ensures.last none)
