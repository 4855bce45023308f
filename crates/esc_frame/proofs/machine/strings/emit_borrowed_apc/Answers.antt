use Rattle.std.proofs.Common.{◌∙◌, refl, length, subst, sym, []}
use Rattle.std.specs.List.{FoldsTo}
use Rattle.esc_frame.specs.Events.{Takes}
use Rattle.esc_frame.specs.Events.Event.{ApcDispatch}
use Rattle.esc_frame.proofs.Emits.EventsFold.{receives_takes}
use Rattle.esc_frame.proofs.Borrow.LentStrings.{within_by, apc_emitted, apc_unemitted}
use Rattle.esc_frame.proofs.Emits.MayAfterSome.{get_first}
use Rattle.esc_frame.specs.Events.{MayGet}
use Rattle.esc_frame.proofs.machine.strings.emit_borrowed_apc.Goals as goal

pub returns-then-fits-clause-emitted : goal.returns-then-fits-clause-emitted
returns-then-fits-clause-emitted g c =
    let t = c.args.text.now in
    subst (λ es. Takes ⊥ g.V.EventSink.takes g.V.EventSink.refuses c.apc_dispatch.result
    c.args.actor.now es c.apc_dispatch.new.self)
    (apc_emitted c.args.limit t
    (within_by c.args.limit (length t) _ c.fits.ensures ∙ c.if-fits.true))
    (receives_takes ⊥ g.V.EventSink.takes g.V.EventSink.refuses c.apc_dispatch.result
    c.args.actor.now
    c.apc_dispatch.new.self (ApcDispatch t)
    c.apc_dispatch.ensures.receives)

pub returns-else-fits-clause-emitted : goal.returns-else-fits-clause-emitted
returns-else-fits-clause-emitted g c =
    let t = c.args.text.now in
    subst (λ es. FoldsTo g.V.EventSink.takes c.args.actor.now es c.args.actor.now)
    (apc_unemitted c.args.limit t (within_by c.args.limit (length t) _ c.fits.ensures
    ∙ c.if-fits.false)) refl

pub apc_dispatch-requires : goal.apc_dispatch-requires
apc_dispatch-requires g c =
    let t = c.args.text.now in
    let a = c.args.actor.now in
    let within = within_by c.args.limit (length t) _ c.fits.ensures ∙ c.if-fits.true in
    get_first g.V.EventSink.is_ready g.V.EventSink.may g.V.EventSink.takes a a (ApcDispatch t) []
    (subst (MayGet g.V.EventSink.is_ready g.V.EventSink.may g.V.EventSink.takes a) (sym
    (apc_emitted c.args.limit t within)) c.requires)
