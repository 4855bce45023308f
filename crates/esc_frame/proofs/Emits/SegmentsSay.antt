-- Texts say their events: characters, controls, and any one segment that is finished by itself.
use Rattle.std.proofs.Common.{ℕ, ◌≡◌, ◌≤◌, ◌<◌, true, List, [], ◌∷◌, ◌++◌, refl, sym, ap, ◌∙◌, arith, inl, inr}
use Rattle.std.proofs.lemmas.List.{append-nil}
use Rattle.std.proofs.lemmas.Str.{encode_ascii}
use Rattle.std.proofs.lemmas.Bool.Decides.{nat_tests}
use Rattle.std.specs.Char.{encode_utf8}
use Rattle.esc_values.specs.Clear.{is_clear}
use Rattle.esc_frame.specs.Classes.{class_of, is_text, is_control, is_c1}
use Rattle.esc_frame.specs.Sequences.{is_broken_before}
use Rattle.esc_frame.specs.Events.{Event}
use Rattle.esc_frame.specs.Events.Event.{Print, Execute}
use Rattle.esc_frame.specs.Segments.{Segment, OscUnit, HasShape, IsOscUnit, AreOscUnits, joined_bytes, bytes_of, text_bytes, events_of, is_finished, ends_itself}
use Rattle.esc_frame.specs.Segments.Segment.{Character, Wide, Broken, Control, HighControl, Osc, Dcs, Apc, Ignored, CutDcs, CutEscape}
use Rattle.esc_frame.specs.Segments.Segment.{CutCsi}
use Rattle.esc_frame.specs.Segments.Ending.{Open, Rung, Waits}
use Rattle.esc_frame.specs.Segments.OscUnit.{One, Sequence, BrokenOff}
use Rattle.esc_frame.specs.Leads.{finished_events}
use Rattle.esc_frame.specs.Stream.{Says, events}
use Rattle.esc_frame.specs.Fits.{IsOneSegment}
use Rattle.esc_frame.proofs.Emits.EventsAreTheCuts.{says_segments}
use Rattle.esc_frame.proofs.Cut.WellFormedIsUtf8.{spells_clear, clear_cases}

pub says_by : (t u : List ℕ) (es fs : List Event) → t ≡ u → es ≡ fs → Says t es → Says u fs
says_by t u es fs e f h rest =
    ap (λ x. events (x ++ rest)) (sym e) ∙ h rest ∙ ap (λ x. x ++ events rest) f

-- one segment
pub says_one : (g : Segment) → ((rest : List ℕ) → HasShape g rest × (is_finished g rest ≡ true))
    → Says (bytes_of g) (events_of g true)
says_one g h =
    says_by (joined_bytes (g ∷ [])) (bytes_of g) (finished_events (g ∷ [])) (events_of g true)
    (append-nil (bytes_of g)) (append-nil (events_of g true))
    (says_segments (g ∷ []) (λ rest. ((h rest).0, (h rest).1, tt)))

-- ASCII text
pub text_from : (c : ℕ) → 0x20 ≤ c → c < 128 → is_text (class_of c) ≡ true
unfolding class_of
text_from c l h = grind (arith, nat_tests)

pub says_print : (c : ℕ) → is_clear c ≡ true → Says (encode_utf8 c) (Print c ∷ [])
says_print c h = let q = clear_cases c h in elim q.1 [
  | inl l ↦ let t = text_from c l.0 l.1 in
      says_by (c ∷ []) (encode_utf8 c) (Print c ∷ []) (Print c ∷ []) (sym (encode_ascii c l.1)) refl
      (says_one (Character c) (λ rest. (t, refl)))
  | inr l ↦ let w = spells_clear c q.0 l in
      says_by (encode_utf8 c) (encode_utf8 c) (events_of (Wide (encode_utf8 c)) true) (Print c ∷ [])
      refl
      (ap (λ n. Print n ∷ []) w.2) (says_one (Wide (encode_utf8 c)) (λ rest. ((w.0, w.1), refl)))
]

pub says_control : (b : ℕ) → is_control (class_of b) ≡ true → Says (b ∷ []) (Execute b ∷ [])
says_control b h = says_one (Control b) (λ rest. (h, refl))

pub says_high_control : (b : ℕ) → is_c1 (class_of b) ≡ true
    → Says (0xc2 ∷ b ∷ []) (Execute b ∷ [])
says_high_control b h = says_one (HighControl true b) (λ rest. (h, refl))

-- a segment that is finished by itself is so whatever follows
head_same : (f t x y : List ℕ) → is_broken_before f (t ++ 0x07 ∷ x) ≡ true
    → is_broken_before f (t ++ 0x07 ∷ y) ≡ true
head_same f [] x y h = h
head_same f (b ∷ t) x y h = h

osc_unit_anyway : (p : OscUnit) (t x y : List ℕ) → IsOscUnit p (t ++ 0x07 ∷ x)
    → IsOscUnit p (t ++ 0x07 ∷ y)
osc_unit_anyway (One b) t x y h = h
osc_unit_anyway (Sequence s) t x y h = h
osc_unit_anyway (BrokenOff f) t x y h = (h.0, head_same f t x y h.1)

osc_units_anyway : (ps : List OscUnit) (x y : List ℕ) → AreOscUnits ps (0x07 ∷ x)
    → AreOscUnits ps (0x07 ∷ y)
osc_units_anyway [] x y h = tt
osc_units_anyway (p ∷ ps) x y h = (
  osc_unit_anyway p (text_bytes ps) x y h.0,
  osc_units_anyway ps x
      y h.1,
)

itself : (g : Segment) (rest : List ℕ) → ends_itself g ≡ true → HasShape g [] → HasShape g rest
    × (is_finished g rest ≡ true)
itself (Osc o ps Rung) rest e h = ((h.0, osc_units_anyway ps [] rest h.1, h.2), refl)
itself (Osc o ps Open) rest e h = absurd cc
itself (Osc o ps (Waits f)) rest e h = absurd cc
itself (Broken x) rest e h = absurd cc
itself (CutEscape x) rest e h = absurd cc
itself (CutCsi o x) rest e h = absurd cc
itself (CutDcs o x) rest e h = absurd cc
itself (Dcs o x f d) rest e h = absurd cc
itself (Apc o d) rest e h = absurd cc
itself (Ignored k o d) rest e h = absurd cc
itself _ rest e h = (h, refl)

pub says_itself : (t : List ℕ) (es : List Event) → IsOneSegment t es → Says t es
says_itself t es (g, bytes, ends, shape, emitted) =
    says_by (bytes_of g) t (events_of g true) es bytes emitted
    (says_one g (λ rest. itself g rest ends shape))
