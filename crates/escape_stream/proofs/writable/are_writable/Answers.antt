use Rattle.std.proofs.Common.{◌<◌, ◌≤◌, length, sym, ◌∙◌, arith}
use Rattle.esc_actions.specs.Values.{value_of}
use Rattle.escape_stream.proofs.WritableLists.{at_end, false_is_not, not_itself, out_of_place, turn}
use Rattle.escape_stream.proofs.writable.are_writable.Goals as goal

pub loop-action-preserved : goal.loop-action-preserved
loop-action-preserved g c =
    let h : c.loop-action.action-index < length c.args.actions.now = omega arith in
    turn value_of _ _ c.args.actions.now c.loop-action.action-index c.action-item.result
    c.action-item.is h c.loop-action.invariant _
    (c.is_in_place.ensures.0 c.if-not-is_in_place.false)
    (c.in_ok-is_writable.ensures.ok.0 c.if-not-branch.false) c.stays_within-within.ensures

pub returns-then-not-is_in_place-clause-ok : goal.returns-then-not-is_in_place-clause-ok
returns-then-not-is_in_place-clause-ok g c =
    let h : c.loop-action.action-index < length c.args.actions.now = omega arith in
    out_of_place value_of _ _ c.args.actions.now c.loop-action.action-index c.action-item.result
    c.action-item.is h c.loop-action.invariant
    (λ e. false_is_not (sym c.if-not-is_in_place.true ∙ c.is_in_place.ensures.1 e))

pub returns-then-not-branch-clause-ok : goal.returns-then-not-branch-clause-ok
returns-then-not-branch-clause-ok g c =
    let h : c.loop-action.action-index < length c.args.actions.now = omega arith in
    not_itself value_of _ _ c.args.actions.now c.loop-action.action-index c.action-item.result
    c.action-item.is h c.loop-action.invariant
    (λ k. false_is_not (sym c.if-not-branch.true ∙ c.in_ok-is_writable.ensures.ok.1 k))

pub returns-clause-ok : goal.returns-clause-ok
returns-clause-ok g c =
    let h : length c.args.actions.now ≤ c.loop-action.action-index = omega arith in
    at_end value_of _ _ c.args.actions.now c.loop-action.action-index h c.loop-action.invariant
