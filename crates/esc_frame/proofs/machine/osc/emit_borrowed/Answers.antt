use Rattle.std.proofs.Common.{[], ◌∷◌, ◌≡◌, true, not, ◌∙◌, refl, length, subst, sym}
use Rattle.std.specs.List.{FoldsTo}
use Rattle.esc_values.specs.Clear.{parts_of}
use Rattle.esc_frame.specs.Events.{Takes}
use Rattle.esc_frame.specs.Events.Event.{OscDispatch}
use Rattle.esc_frame.specs.Limits.{has_few_parts}
use Rattle.esc_frame.specs.Machine.Calls.{Stops}
use Rattle.esc_frame.proofs.Emits.EventsFold.{takes_for}
use Rattle.esc_frame.proofs.Borrow.LentStrings.{within_by, osc_emitted, osc_unemitted}
use Rattle.esc_frame.proofs.Emits.MayAfterSome.{get_first}
use Rattle.esc_frame.specs.Events.{MayGet}
use Rattle.esc_frame.proofs.machine.osc.emit_borrowed.Goals as goal

pub returns-then-fits-clause-emitted : goal.returns-then-fits-clause-emitted
returns-then-fits-clause-emitted g c =
    let t = c.args.text.now in
    let own : Type 0 = (not (has_few_parts t) ≡ true)
    × Stops g.V.EventSink.stops g.row.A.Denot c.args.limit in
    let within = within_by c.args.limit (length t) _ c.fits.ensures ∙ c.if-fits.true in
    subst (λ es. Takes own g.V.EventSink.takes g.V.EventSink.refuses c.osc_text.result
    c.args.actor.now
    es c.osc_text.new.self)
    (osc_emitted c.args.limit t within)
    (takes_for _ own g.V.EventSink.takes g.V.EventSink.refuses c.osc_text.result c.args.actor.now
    c.osc_text.new.self
    (OscDispatch (parts_of t) ∷ []) (λ w. (w.0, (t, within, w.1))) c.osc_text.ensures.emitted)

pub returns-else-fits-clause-emitted : goal.returns-else-fits-clause-emitted
returns-else-fits-clause-emitted g c =
    let t = c.args.text.now in
    subst (λ es. FoldsTo g.V.EventSink.takes c.args.actor.now es c.args.actor.now)
    (osc_unemitted c.args.limit t (within_by c.args.limit (length t) _ c.fits.ensures
    ∙ c.if-fits.false)) refl

pub osc_text-requires : goal.osc_text-requires
osc_text-requires g c =
    let t = c.args.text.now in
    let a = c.args.actor.now in
    let within = within_by c.args.limit (length t) _ c.fits.ensures ∙ c.if-fits.true in
    get_first g.V.EventSink.is_ready g.V.EventSink.may g.V.EventSink.takes a a
    (OscDispatch (parts_of t)) []
    (subst (MayGet g.V.EventSink.is_ready g.V.EventSink.may g.V.EventSink.takes a) (sym
    (osc_emitted c.args.limit t within)) c.requires)
