use Rattle.std.proofs.Common.{◌≡◌, ◌||◌, true, refl, ap, rules}
use Rattle.esc_frame.specs.declared.classes.Class.TheVariants.{Breaks}
use Rattle.esc_frame.specs.Classes.{is_control, is_c1}
use Rattle.esc_frame.specs.Segments.Opener.{Raw}
use Rattle.esc_frame.specs.Machine.Prefixes.{prefix_of}
use Rattle.esc_frame.proofs.Steps.GroundMoves.{control_moved}
use Rattle.esc_frame.specs.Machine.Calls.{Fails}
use Rattle.esc_frame.proofs.machine.Machine.break_in_ground.Goals as goal

pub returns-in-C1Introducer-clause-moved : goal.returns-in-C1Introducer-clause-moved
returns-in-C1Introducer-clause-moved g c =
    λ limit own. rw c.in-C1Introducer.is (c.open.ensures.holds limit Raw, refl)

pub returns-in-Escape-clause-moved : goal.returns-in-Escape-clause-moved
returns-in-Escape-clause-moved g c =
    λ limit own. rw c.in-Escape.is (c.enter_escape.ensures.holds limit, refl)

pub returns-in-Cancel-clause-moved : goal.returns-in-Cancel-clause-moved
returns-in-Cancel-clause-moved g c = λ limit own.
    let t : (is_control (Breaks c.args.breaker) || is_c1 (Breaks c.args.breaker)) ≡ true =
    search (rules, c.in-Cancel.is) in
    control_moved g.K.TextRoom.keeps (Fails g.K.TextRoom.may_fail g.V.EventSink.stops g.row.A.Denot)
    limit own g.V.EventSink.takes g.V.EventSink.refuses
    c.execute_c0_or_c1.result c.args.b (Breaks c.args.breaker)
    c.args.self.now c.args.actor.now
    c.execute_c0_or_c1.new.self (c.requires.ground.0, ap prefix_of c.requires.ground.1) t
    c.execute_c0_or_c1.ensures.receives
