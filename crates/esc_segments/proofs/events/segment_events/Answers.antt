use Rattle.std.proofs.Common.{ℕ, ◌≡◌, true, false, [], ◌∷◌, refl, sym, ap, ◌∙◌, subst}
use Rattle.esc_frame.specs.Events.{Takes}
use Rattle.esc_frame.specs.Events.Event.{Print}
use Rattle.esc_frame.specs.Segments.{Segment, executes}
use Rattle.esc_frame.specs.Segments.Segment.{Apc, Broken, Character, Control, Csi, CutCsi, CutDcs, CutEscape, Dcs, Escape, HighControl, Ignored, Osc, Stray, Wide}
use Rattle.esc_frame.specs.Sequences.{is_sequence, number_of}
use Rattle.esc_frame.proofs.Emits.EventsFold.{receives_takes}
use Rattle.fallible_alloc.specs.Refusals.{Refused}
use Rattle.esc_segments.proofs.ByKind.{IsGiven, plainly, with_memory}
use Rattle.esc_segments.proofs.Executes.{executes_opener}
use Rattle.esc_segments.proofs.KindCases.{apcs, brokens, characters, controls, csis, cut_shorts, dcss, escapes, ignoreds, oscs, strays}
use Rattle.esc_segments.proofs.events.segment_events.Goals as goal

pub returns-in-Character-clause-emitted : goal.returns-in-Character-clause-emitted
returns-in-Character-clause-emitted g c = λ s after h i.
    let seg = c.args.segment.now in
    let P : Segment → Type 0 = IsGiven (Refused g.row.A.Denot) g.V.VTActor.takes g.V.VTActor.refuses
    seg after c.print.result c.args.actor.now c.print.new.self in
    let said : ℕ → Type 0 = λ y. Takes ⊥ g.V.VTActor.takes g.V.VTActor.refuses c.print.result
    c.args.actor.now (Print y ∷ []) c.print.new.self in
    let one = receives_takes ⊥ g.V.VTActor.takes g.V.VTActor.refuses c.print.result
    c.args.actor.now c.print.new.self _ c.print.ensures.receives in
    (characters P s (sym i.kind ∙ c.in-Character.is)
    (λ b. plainly (Character b) (λ h i. subst said (c.character_of.ensures.narrow b h i.bytes) one))
    (λ x. plainly (Wide x) (λ h i. subst said
    (c.character_of.ensures.wide (subst (λ y. is_sequence y ≡ true) (sym i.bytes) h.0)
    ∙ ap number_of i.bytes) one))).so h i

pub returns-in-Broken-clause-emitted : goal.returns-in-Broken-clause-emitted
returns-in-Broken-clause-emitted g c = λ s after h i.
    let seg = c.args.segment.now in
    let P : Segment → Type 0 = IsGiven (Refused g.row.A.Denot) g.V.VTActor.takes g.V.VTActor.refuses
    seg after c.broken.result c.args.actor.now c.broken.new.actor in
    (brokens P s (sym i.kind ∙ c.in-Broken.is)
    (λ x. plainly (Broken x) (λ h i. c.broken.ensures.emitted))).so h i

pub returns-in-Stray-clause-emitted : goal.returns-in-Stray-clause-emitted
returns-in-Stray-clause-emitted g c = λ s after h i.
    let seg = c.args.segment.now in
    let P : Segment → Type 0 = IsGiven (Refused g.row.A.Denot) g.V.VTActor.takes g.V.VTActor.refuses
    seg after c.print-in-Stray.result c.args.actor.now c.print-in-Stray.new.self in
    (strays P s (sym i.kind ∙ c.in-Stray.is)
    (λ b. plainly (Stray b) (λ h i. receives_takes ⊥ g.V.VTActor.takes g.V.VTActor.refuses
    c.print-in-Stray.result c.args.actor.now c.print-in-Stray.new.self _
    c.print-in-Stray.ensures.receives))).so h i

pub returns-in-Control-clause-emitted : goal.returns-in-Control-clause-emitted
returns-in-Control-clause-emitted g c = λ s after h i.
    let seg = c.args.segment.now in
    let P : Segment → Type 0 = IsGiven (Refused g.row.A.Denot) g.V.VTActor.takes g.V.VTActor.refuses
    seg after c.control.result c.args.actor.now c.control.new.actor in
    (controls P s (sym i.kind ∙ c.in-Control.is)
    (λ b. plainly (Control b) (λ h i. c.control.ensures.emitted false b i.bytes))
    (λ p b. plainly (HighControl p b) (λ h i. c.control.ensures.emitted p b i.bytes))).so h i

pub returns-in-Escape-clause-emitted : goal.returns-in-Escape-clause-emitted
returns-in-Escape-clause-emitted g c = λ s after h i.
    let seg = c.args.segment.now in
    let P : Segment → Type 0 = IsGiven (Refused g.row.A.Denot) g.V.VTActor.takes g.V.VTActor.refuses
    seg after c.escape.result c.args.actor.now c.escape.new.actor in
    (escapes P s (sym i.kind ∙ c.in-Escape.is)
    (λ x f. plainly (Escape x f) (λ h i.
    c.escape.ensures.emitted seg.finished x f after h i.bytes i.finished))).so h i

pub returns-in-Csi-clause-emitted : goal.returns-in-Csi-clause-emitted
returns-in-Csi-clause-emitted g c = λ s after h i.
    let seg = c.args.segment.now in
    let P : Segment → Type 0 = IsGiven (Refused g.row.A.Denot) g.V.VTActor.takes g.V.VTActor.refuses
    seg after c.csi.result c.args.actor.now c.csi.new.actor in
    (csis P s (sym i.kind ∙ c.in-Csi.is)
    (λ o x f. plainly (Csi o x f) (λ h i.
    c.csi.ensures.emitted seg.finished o x f after h i.bytes i.finished))).so h i

pub returns-in-Dcs-clause-emitted : goal.returns-in-Dcs-clause-emitted
returns-in-Dcs-clause-emitted g c = λ s after h i.
    let seg = c.args.segment.now in
    let P : Segment → Type 0 = IsGiven (Refused g.row.A.Denot) g.V.VTActor.takes g.V.VTActor.refuses
    seg after c.dcs.result c.args.actor.now c.dcs.new.actor in
    (dcss P s (sym i.kind ∙ c.in-Dcs.is)
    (λ o x f d. with_memory (Dcs o x f d) refl (λ h i.
    c.dcs.ensures.emitted o x f d after h i.bytes i.finished))).so h i

pub returns-in-Osc-clause-emitted : goal.returns-in-Osc-clause-emitted
returns-in-Osc-clause-emitted g c = λ s after h i.
    let seg = c.args.segment.now in
    let P : Segment → Type 0 = IsGiven (Refused g.row.A.Denot) g.V.VTActor.takes g.V.VTActor.refuses
    seg after c.osc.result c.args.actor.now c.osc.new.actor in
    (oscs P s (sym i.kind ∙ c.in-Osc.is)
    (λ o ps e. with_memory (Osc o ps e) refl (λ h i.
    c.osc.ensures.emitted o ps e after h i.bytes i.finished))).so h i

pub returns-in-Apc-clause-emitted : goal.returns-in-Apc-clause-emitted
returns-in-Apc-clause-emitted g c = λ s after h i.
    let seg = c.args.segment.now in
    let P : Segment → Type 0 = IsGiven (Refused g.row.A.Denot) g.V.VTActor.takes g.V.VTActor.refuses
    seg after c.apc.result c.args.actor.now c.apc.new.actor in
    (apcs P s (sym i.kind ∙ c.in-Apc.is)
    (λ o d. with_memory (Apc o d) refl (λ h i.
    c.apc.ensures.emitted o d after h i.bytes i.finished))).so h i

pub returns-in-Ignored-clause-emitted : goal.returns-in-Ignored-clause-emitted
returns-in-Ignored-clause-emitted g c = λ s after h i.
    let seg = c.args.segment.now in
    let P : Segment → Type 0 = IsGiven (Refused g.row.A.Denot) g.V.VTActor.takes g.V.VTActor.refuses
    seg after c.execute_in.result c.args.actor.now c.execute_in.new.actor in
    (ignoreds P s (sym i.kind ∙ c.in-Ignored.is)
    (λ k o d. plainly (Ignored k o d) (λ h i.
    subst (λ es. Takes ⊥ g.V.VTActor.takes g.V.VTActor.refuses c.execute_in.result
    c.args.actor.now es c.execute_in.new.actor)
    (ap executes (c.split_opener.ensures k o d h.1 i.bytes).0 ∙ executes_opener k o)
    c.execute_in.ensures.emitted))).so h i

pub returns-in-CutShort-clause-emitted : goal.returns-in-CutShort-clause-emitted
returns-in-CutShort-clause-emitted g c = λ s after h i.
    let seg = c.args.segment.now in
    let P : Segment → Type 0 = IsGiven (Refused g.row.A.Denot) g.V.VTActor.takes g.V.VTActor.refuses
    seg after c.cut_short.result c.args.actor.now c.cut_short.new.actor in
    (cut_shorts P s (sym i.kind ∙ c.in-CutShort.is)
    (λ x. plainly (CutEscape x) (λ h i.
    c.cut_short.ensures.emitted seg.finished (CutEscape x) refl after h i.bytes i.finished))
    (λ o x. plainly (CutCsi o x) (λ h i.
    c.cut_short.ensures.emitted seg.finished (CutCsi o x) refl after h i.bytes i.finished))
    (λ o x. plainly (CutDcs o x) (λ h i.
    c.cut_short.ensures.emitted seg.finished (CutDcs o x) refl after h i.bytes i.finished))).so h i
