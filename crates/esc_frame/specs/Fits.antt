-- The events of any stream have these forms, and these texts are one segment.
use Rattle.std.specs.Prelude.{ℕ, ◌≡◌, true, false, ◌||◌, ◌&&◌, List, [], ◌∷◌}
use Rattle.esc_values.specs.Clear.{is_clear, AreTextParts}
use Rattle.esc_frame.specs.Classes.{class_of, AllOf, in_body, is_control, is_c1, is_intermediate, ends_escape, opens, ends_csi, is_put, is_text}
use Rattle.esc_frame.specs.Bodies.{is_csi_body, is_dcs_header}
use Rattle.esc_frame.specs.Events.{Event}
use Rattle.esc_frame.specs.Events.Event.{Print, Execute, EscDispatch, CsiDispatch, OscDispatch, DcsHook, DcsPut, DcsUnhook, ApcDispatch}
use Rattle.esc_frame.specs.Segments.{Segment, HasShape, bytes_of, events_of, ends_itself, is_empty, escape_event, csi_event, hook_event}

-- says that an event has its form: a clear character; a control; intermediates and a final byte,
-- which opens nothing if there is no intermediate; the parameters of a body of its form; clear
-- parts, not one empty part; a byte of data; a text of 20-7F
abbrev pub IsFit : Event → Type 0
IsFit (Print c) = is_clear c ≡ true
IsFit (Execute b) = (is_control (class_of b) || is_c1 (class_of b)) ≡ true
IsFit (EscDispatch is more f) =
    AllOf is_intermediate is × (ends_escape (class_of f) ≡ true) ×
    ((x : List ℕ) × AllOf is_intermediate x × (EscDispatch is more f ≡ escape_event x f)
    × ((is_empty x && opens (class_of f)) ≡ false))
IsFit (CsiDispatch es more f) =
    (x : List ℕ) × AllOf in_body x × (is_csi_body x ≡ true)
    × (CsiDispatch es more f ≡ csi_event x f) × (ends_csi (class_of f) ≡ true)
IsFit (OscDispatch ps) = AreTextParts ps
IsFit (DcsHook f ns is more) =
    (x : List ℕ) × AllOf in_body x × (is_dcs_header x ≡ true)
    × (DcsHook f ns is more ≡ hook_event x f) × (ends_csi (class_of f) ≡ true)
IsFit (DcsPut b) = is_put (class_of b) ≡ true
IsFit DcsUnhook = Unit {0}
IsFit (ApcDispatch t) = AllOf is_text t

abbrev pub AreFit : List Event → Type 0
AreFit [] = Unit {0}
AreFit (e ∷ es) = IsFit e × AreFit es

-- the bytes are one segment, finished by itself, that gives these events
abbrev pub IsOneSegment : List ℕ → List Event → Type 0
IsOneSegment t es = (g : Segment) × (bytes_of g ≡ t) × (ends_itself g ≡ true) × HasShape g []
    × (events_of g true ≡ es)
