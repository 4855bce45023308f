use Rattle.esc_frame.specs.Leads.Unfinished.{Ground}
use Rattle.esc_frame.specs.Machine.Moves.{after_all}
use Rattle.esc_frame.specs.Stream.{HasConsumedWithin}
use Rattle.esc_frame.proofs.Cut.CutAtGround.{to_ground, from_ground}
use Rattle.esc_frame.proofs.parser.VTParser.is_ground.Goals as goal

pub returns-then-not-self-clause-ground : goal.returns-then-not-self-clause-ground
unfolding HasConsumedWithin
returns-then-not-self-clause-ground g c = λ limit s (f, i, h).
    let e = c.is_ground.ensures.known c.args.self.now.machine.limit (after_all Ground s) h in
    (λ t. from_ground s (e.0 t), λ k. e.1 (to_ground s k))
