use Rattle.std.proofs.Common.{◌≡◌, true, length, refl, subst, sym}
use Rattle.esc_frame.specs.Limits.{is_within}
use Rattle.esc_frame.specs.Machine.Calls.{Stops}
use Rattle.esc_frame.specs.Machine.Keeps.{parameters_of}
use Rattle.esc_frame.proofs.Emits.EventsFold.{takes_one}
use Rattle.esc_frame.proofs.Steps.HeadersAreKept.{hook_is, read_parts}
use Rattle.std.proofs.Math.Logic.{⊎_map}
use Rattle.esc_frame.proofs.machine.dcs.hook.Goals as goal

pub returns-clause-emitted : goal.returns-clause-emitted
returns-clause-emitted g c = λ limit x h k r.
    let p = read_parts limit x r in
    let e = c.bytes.ensures.kept limit (parameters_of x) h p.0 in
    takes_one _ (Stops g.V.EventSink.stops g.row.A.Denot limit)
    g.V.EventSink.takes g.V.EventSink.refuses
    c.dcs_header.result c.args.actor.now c.dcs_header.new.self
    (hook_is c.args.header.now x c.bytes.result.now _ _ c.args.b p.1 k e refl c.as_slice.ensures)
    (λ w. (
      c.bytes.result.now,
      subst (λ y. is_within limit (length y) ≡ true) (sym e) p.0,
      w,
    )) c.dcs_header.ensures.emitted

pub dcs_header-requires : goal.dcs_header-requires
dcs_header-requires g c =
    ⊎_map (λ r. r) (λ w.
    subst (g.V.EventSink.may c.args.actor.now)
    (sym (hook_is c.args.header.now w.1 c.bytes.result.now _ _ c.args.b
    (read_parts w.0 w.1 w.4).1 w.3
    (c.bytes.ensures.kept w.0 (parameters_of w.1) w.2 (read_parts w.0 w.1 w.4).0) refl
    c.as_slice.ensures)) w.5.0) c.requires
