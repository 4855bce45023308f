use Rattle.esc_frame.proofs.Cut.CutAtGround.{to_ground}
use Rattle.esc_frame.proofs.Emits.StepsAdd.{character_fed}
use Rattle.esc_frame.proofs.parser.VTParser.first_char.Goals as goal

pub returns-then-is_ground-clause-given : goal.returns-then-is_ground-clause-given
returns-then-is_ground-clause-given g c = λ limit s h.
    character_fed limit c.args.self.now s c.args.bytes.now c.first_char.result h
    (to_ground s ((c.is_ground.ensures.ground limit s h).0 c.if-is_ground.true))
    c.first_char.ensures.prints (c.first_char.ensures.quiet limit)
