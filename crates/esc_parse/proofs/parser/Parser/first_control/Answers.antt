use Rattle.std.proofs.Common.{take, refl}
use Rattle.esc_frame.specs.Events.Event.{Execute}
use Rattle.esc_parse.proofs.Values.EventsGiveValues.{hooks_by}
use Rattle.esc_parse.proofs.Values.ExactPrefixes.{control_found}
use Rattle.esc_parse.specs.Fed.{ParserHasConsumedWithin}
use Rattle.esc_parse.proofs.parser.Parser.first_control.Goals as goal

pub returns-clause-given : goal.returns-clause-given
unfolding ParserHasConsumedWithin
returns-clause-given g c = λ limit s h.
    let given = c.in_ok-first_control.ensures.given limit s h.0 in
    control_found _ limit s (take 1 c.args.bytes.now) _ _ c.from_byte.result
    (given.0, hooks_by limit _ s (take 1 c.args.bytes.now) (Execute _) given.1 refl h.1) given.1
    c.from_byte.ensures
