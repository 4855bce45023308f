-- Values that have a text.
use Rattle.std.proofs.Common.{ℕ, ◌≡◌, ◌<◌, true, List, [], ◌∷◌, refl, arith}
use Rattle.std.proofs.lemmas.Bool.{and_from}
use Rattle.std.proofs.lemmas.Bool.Decides.{nat_tests}
use Rattle.std.specs.List.{list_all}
use Rattle.std.specs.Prelude.{nat_lt}
use Rattle.esc_sixel.specs.Texts.{is_sixel}
use Rattle.esc_sixel.specs.Writable.{AreWritableData, IsWritableData}
use Rattle.esc_sixel.specs.declared.sixel_data.SixelData.{SixelData}
use Rattle.esc_sixel.specs.declared.sixel_data.SixelData.TheVariants as data_variant
use Rattle.esc_actions.specs.Texts.{has_text}
use Rattle.esc_actions.specs.Values.{Value, print, string, control, esc, csi, osc, kitty, sixel, termcap, short, enter, datum, exit}
use Rattle.esc_actions.specs.Writable.{EmittedAreWritable, IsHandedOut, IsWritable}

-- values over 63 are not writable
below_64 : (v : ℕ) → v < 64 → nat_lt v 64 ≡ true
below_64 v h = grind (arith, nat_tests)

datum_has_text : (d : SixelData) → IsWritableData d → is_sixel d ≡ true
datum_has_text (data_variant.Data v) h = below_64 v h
datum_has_text (data_variant.Repeat v n) h = below_64 v h.1
datum_has_text d h = refl

data_have_text : (ds : List SixelData) → AreWritableData ds → list_all is_sixel ds ≡ true
data_have_text [] h = refl
data_have_text (d ∷ ds) h = and_from (is_sixel d) (list_all is_sixel ds) (datum_has_text d h.0)
    (data_have_text ds h.1)

pub writable_has_text : {A : Type 0} (v : Value A) → IsWritable v → has_text v ≡ true
writable_has_text (print c) h = refl
writable_has_text (string t) h = refl
writable_has_text (control c) h = refl
writable_has_text (esc e) h = refl
writable_has_text (csi c) h = refl
writable_has_text (osc c) h = refl
writable_has_text (kitty i) h = refl
writable_has_text (sixel s) (pan, (pad, (sizes, (grid, content)))) =
    data_have_text s.content content
writable_has_text (termcap ns) h = refl
writable_has_text (short s) h = refl
writable_has_text (enter e) h = refl
writable_has_text (datum b) h = refl
writable_has_text exit h = refl

-- among the actions that are handed out, only a sixel image needs to be writable for that
handed_out_has_text : {A : Type 0} (v : Value A) → IsHandedOut v → has_text v ≡ true
handed_out_has_text (sixel s) h = writable_has_text (sixel s) (h refl)
handed_out_has_text (print c) h = refl
handed_out_has_text (string t) h = refl
handed_out_has_text (control c) h = refl
handed_out_has_text (esc e) h = refl
handed_out_has_text (csi c) h = refl
handed_out_has_text (osc c) h = refl
handed_out_has_text (kitty i) h = refl
handed_out_has_text (termcap ns) h = refl
handed_out_has_text (short s) h = refl
handed_out_has_text (enter e) h = refl
handed_out_has_text (datum b) h = refl
handed_out_has_text exit h = refl

pub handed_out_have_texts : {A : Type 0} (vs : List (Value A)) → EmittedAreWritable vs
    → list_all has_text vs ≡ true
handed_out_have_texts [] h = refl
handed_out_have_texts (v ∷ vs) h =
    and_from (has_text v) (list_all has_text vs) (handed_out_has_text v h.0)
    (handed_out_have_texts vs h.1)
