use Rattle.std.proofs.Common.{arith}
use Rattle.esc_frame.proofs.ByteRuns.ManyBytes.{character_does}
use Rattle.esc_frame.proofs.Emits.StopsAtFirstEvent.{character_still}
use Rattle.esc_frame.proofs.runs.printing.first_wide.Goals as goal

pub returns-else-n-eq0-clause-prints : goal.returns-else-n-eq0-clause-prints
returns-else-n-eq0-clause-prints c = character_does _ _ (c.ahead-n.ensures.ahead (omega arith)).1

pub returns-else-n-eq0-clause-quiet : goal.returns-else-n-eq0-clause-quiet
returns-else-n-eq0-clause-quiet c = λ limit. let k = c.ahead-n.ensures.ahead (omega arith) in
    character_still limit c.args.rest.now _ _ k.0 k.1
