use Rattle.std.proofs.Common.{arith, inl}
use Rattle.esc_actions.specs.declared.action.Action.TheVariants as action
use Rattle.esc_parse.proofs.Runs.RunsOfText.{stops_next, takes_next}
use Rattle.fallible_alloc.specs.Refusals.{Refused}
use Rattle.esc_account.specs.Briefs.{Keeps}
use Rattle.esc_account.proofs.brief.BriefSinkAction.receive_text.Goals as goal

pub loop-b-preserved : goal.loop-b-preserved
loop-b-preserved g c =
    let at = c.loop-b in
    takes_next action.Print Keeps (λ _ _ _. Refused g.row.A.Denot) c.args.text.now at.b-index
    (omega arith) c.args.self.now at.self _ at.invariant c.in-Ok.ensures.given

pub returns-in-Err-clause-given : goal.returns-in-Err-clause-given
returns-in-Err-clause-given g c =
    let at = c.loop-b in
    stops_next action.Print Keeps (λ _ _ _. Refused g.row.A.Denot) c.args.text.now at.b-index
    (omega arith) c.args.self.now _ _ at.invariant c.in-Err.ensures.given

pub receive-requires : goal.receive-requires
receive-requires g c = inl tt
