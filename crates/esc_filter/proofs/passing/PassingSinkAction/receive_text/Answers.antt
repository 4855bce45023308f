use Rattle.esc_normal.proofs.Spelling.{match_both}
use Rattle.std.proofs.Common.{arith}
use Rattle.esc_actions.specs.declared.action.Action.TheVariants.{Print}
use Rattle.esc_parse.proofs.Runs.RunsOfText.{stops_next, takes_next}
use Rattle.esc_filter.proofs.Output.RunsOfText.{run_passes, run_refused}
use Rattle.esc_filter.specs.Fed.{Refuses, TakesBy}
use Rattle.esc_filter.proofs.passing.PassingSinkAction.receive_text.Goals as goal

pub returns-then-admits_text-clause-given : goal.returns-then-admits_text-clause-given
returns-then-admits_text-clause-given g c =
    match_both _ _ _ _ c.receive_text.result
    (run_passes g.P.Admit.admits c.args.text.now c.args.self.now c.receive_text.new.self
    (c.admits_text.ensures c.if-admits_text.true))
    (run_refused g.P.Admit.admits c.args.text.now c.args.self.now c.receive_text.new.self)
    c.receive_text.ensures.given

pub returns-in-Err-clause-given : goal.returns-in-Err-clause-given
returns-in-Err-clause-given g c =
    let at = c.loop-byte in
    stops_next Print (TakesBy g.P.Admit.admits) Refuses c.args.text.now at.byte-index
    (omega arith) c.args.self.now _ _ at.invariant
    c.in-Err.ensures.given

pub loop-byte-preserved : goal.loop-byte-preserved
loop-byte-preserved g c =
    let at = c.loop-byte in
    takes_next Print (TakesBy g.P.Admit.admits) Refuses c.args.text.now at.byte-index
    (omega arith) c.args.self.now _ _ at.invariant
    c.in-Ok.ensures.given
