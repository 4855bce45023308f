use Rattle.std.proofs.Common.{[], ◌∷◌, ◌∙◌, refl, subst}
use Rattle.esc_frame.specs.Classes.{without_noise}
use Rattle.esc_frame.specs.Events.{Takes}
use Rattle.esc_frame.specs.Machine.Keeps.{parameters_of}
use Rattle.esc_frame.proofs.Emits.EventsFold.{receives_takes}
use Rattle.esc_frame.proofs.Steps.HeadersAreKept.{hook_is}
use Rattle.fallible_alloc.specs.Refusals.{Refused}
use Rattle.esc_segments.proofs.strings.hook.Goals as goal

pub returns-clause-emitted : goal.returns-clause-emitted
returns-clause-emitted g c =
    let x = without_noise c.args.x.now in
    subst (λ y. Takes (Refused g.row.A.Denot)
    g.V.VTActor.takes g.V.VTActor.refuses c.dcs_hook.result c.args.actor.now (y ∷ [])
    c.dcs_hook.new.self)
    (hook_is c.args.header.now x (parameters_of x)
    _ _ c.args.last c.requires.header.formed c.requires.header.kept
    refl (c.deref.ensures.value ∙ c.in_ok-params.ensures.ok)
    c.as_slice.ensures)
    (receives_takes (Refused g.row.A.Denot)
    g.V.VTActor.takes g.V.VTActor.refuses c.dcs_hook.result c.args.actor.now c.dcs_hook.new.self _
    c.dcs_hook.ensures.receives)
