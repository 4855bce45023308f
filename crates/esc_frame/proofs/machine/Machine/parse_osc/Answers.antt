use Rattle.std.proofs.Common.{[], refl, arith}
use Rattle.esc_frame.specs.Leads.Unfinished.{InOsc}
use Rattle.esc_frame.specs.Segments.Opener.{Long}
use Rattle.esc_frame.proofs.ByteRuns.CsiRuns.{osc_opens}
use Rattle.esc_frame.specs.declared.classes.Kind.TheVariants as kind
use Rattle.esc_frame.proofs.Borrow.BytesAreLent.{opened_fresh}
use Rattle.esc_frame.proofs.Emits.StopsAtFirstEvent.{opened_took, opened_stops}
use Rattle.esc_frame.specs.Machine.Calls.{Fails}
use Rattle.std.proofs.Math.Logic.{⊎_map}
use Rattle.esc_frame.specs.Leads.Unfinished.{Ground}
use Rattle.esc_frame.proofs.Emits.MayAfterQuietRun.{rest_awaited}
use Rattle.esc_frame.proofs.Steps.FailureIsHandedOn.{error_of}
use Rattle.esc_frame.proofs.machine.Machine.parse_osc.Goals as goal

pub returns : goal.returns
returns g c =
    opened_took c.args.self.now.limit (InOsc (Long []) []) c.args.rest.now c.requires.opens.some
    c.requires.opens.escape
    (osc_opens c.args.self.now.limit c.args.rest.now (omega arith) c.requires.opens.escape
    c.requires.opens.second) refl
    g.V.EventSink.takes g.V.EventSink.refuses g.V.EventSink.is_ready
    c.args.actor.now c.parse_osc_text.new.actor (opened_fresh kind.Osc (Long []))
    g.K.TextRoom.keeps (Fails g.K.TextRoom.may_fail g.V.EventSink.stops g.row.A.Denot)
    c.args.self.now c.parse_osc_text.new.self c.in_ok-n.n
    (c.in_ok-n.ensures.took (Long []) [] refl) (c.in_ok-n.ensures.quiet (Long []) [])
    c.in_ok-n.ensures.count

pub returns-in_err-n : goal.returns-in_err-n
returns-in_err-n g c =
    rw (error_of c.from_residual.result c.from_residual.ensures.0).1 (
      opened_stops c.args.self.now.limit (InOsc (Long []) []) c.args.rest.now c.requires.opens.some
          c.requires.opens.escape
          (osc_opens c.args.self.now.limit c.args.rest.now (omega arith) c.requires.opens.escape
          c.requires.opens.second) refl g.V.EventSink.takes g.V.EventSink.refuses
          g.V.EventSink.is_ready
          c.args.actor.now c.parse_osc_text.new.actor (opened_fresh kind.Osc (Long []))
          (c.in_err-n.ensures.took (Long []) [] refl),
      tt,
      tt,
    )

pub parse_osc_text-requires-clause-ready : goal.parse_osc_text-requires-clause-ready
parse_osc_text-requires-clause-ready g c =
    ⊎_map (λ r. r) (λ w. (
      Long [],
      [],
      refl,
      rest_awaited g.V.EventSink.may g.V.EventSink.takes c.args.self.now.limit Ground
          (InOsc (Long []) [])
          c.args.rest.now 2 _
          (osc_opens c.args.self.now.limit c.args.rest.now (omega arith) c.requires.opens.escape
          c.requires.opens.second) w,
    )) c.requires.ready
