use Rattle.esc_frame.proofs.Cut.CutAtGround.{to_ground}
use Rattle.esc_frame.proofs.Emits.StepsAdd.{control_fed}
use Rattle.esc_frame.proofs.parser.VTParser.first_control.Goals as goal

pub returns-clause-given : goal.returns-clause-given
returns-clause-given g c = λ limit s h.
    control_fed limit c.args.self.now s c.args.bytes.now c.first_control.result h
    (to_ground s ((c.is_ground.ensures.ground limit s h).0 c.if-not-is_ground.false))
    c.first_control.ensures.executes
