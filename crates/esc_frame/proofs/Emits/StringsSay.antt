-- Strings with their terminator say their events.
use Rattle.std.proofs.Common.{ℕ, ◌≡◌, Bool, true, false, if◌then◌else◌, List, [], ◌∷◌, ◌++◌, refl, sym, ap, ◌∙◌, subst, inl, inr}
use Rattle.std.specs.Char.{encode_utf8}
use Rattle.std.specs.Str.{encode_utf8_all}
use Rattle.std.specs.List.{list_all}
use Rattle.std.proofs.lemmas.List.{append-nil}
use Rattle.std.proofs.lemmas.Str.{encode_ascii}
use Rattle.std.proofs.lemmas.Bool.{and_parts}
use Rattle.esc_values.specs.Clear.{is_clear, IsClearText, parts_of}
use Rattle.esc_frame.specs.declared.classes.Class.{Class}
use Rattle.esc_frame.specs.declared.classes.Class.TheVariants.{Intermediate, Parameter, Introducer, Final, Delete}
use Rattle.esc_frame.specs.Classes.{class_of, AllOf, is_text, is_put, in_osc, in_data, in_body, ends_csi}
use Rattle.esc_frame.specs.Bodies.{is_dcs_header}
use Rattle.esc_frame.specs.Events.Event.{EscDispatch, OscDispatch, DcsUnhook, ApcDispatch}
use Rattle.esc_frame.specs.Segments.{Segment, OscUnit, HasShape, IsOscUnit, AreOscUnits, joined_bytes, text_bytes, text_of, puts, hook_event, breaks, breaks_text}
use Rattle.esc_frame.specs.Segments.Segment.{Osc, Dcs, Apc}
use Rattle.esc_frame.specs.Segments.Segment.{Escape as EscapeOf}
use Rattle.esc_frame.specs.Segments.Opener.{Long}
use Rattle.esc_frame.specs.Segments.Ending.{Open}
use Rattle.esc_frame.specs.Segments.OscUnit.{One, Sequence}
use Rattle.esc_frame.specs.Leads.{finished_events}
use Rattle.esc_frame.specs.Stream.{Says}
use Rattle.esc_frame.proofs.Emits.EventsAreTheCuts.{says_segments}
use Rattle.esc_frame.proofs.Cut.WellFormedIsUtf8.{spells_clear, clear_cases}
use Rattle.esc_frame.proofs.Emits.SegmentsSay.{says_by, text_from}
use Rattle.esc_frame.proofs.Emits.SequencesSay.{all_by, all_those, body_in, body_strip}

backslash_ends : HasShape (EscapeOf [] 0x5c) []
unfolding class_of
backslash_ends = (refl, refl, refl)

text_in_osc : (c : Class) → is_text c ≡ true → in_osc c ≡ true
text_in_osc Intermediate h = refl
text_in_osc Parameter h = refl
text_in_osc (Introducer k) h = refl
text_in_osc Final h = refl
text_in_osc Delete h = refl
text_in_osc _ h = absurd cc

escape_breaks : (rest : List ℕ) → breaks (0x1b ∷ rest) ≡ true
unfolding class_of
escape_breaks rest = refl

text_data : (c : Class) → is_text c ≡ true → in_data c ≡ true
text_data Intermediate h = refl
text_data Parameter h = refl
text_data (Introducer k) h = refl
text_data Final h = refl
text_data Delete h = refl
text_data _ h = absurd cc

put_data : (c : Class) → is_put c ≡ true → in_data c ≡ true
put_data Delete h = absurd cc
put_data _ h = h

-- an APC of 20-7F
pub says_apc : (t : List ℕ) → AllOf is_text t
    → Says ((0x1b ∷ 0x5f ∷ t) ++ 0x1b ∷ 0x5c ∷ []) (ApcDispatch t ∷ EscDispatch [] false 0x5c ∷ [])
says_apc t h =
    let gs : List Segment = Apc (Long []) t ∷ EscapeOf [] 0x5c ∷ [] in
    says_by (joined_bytes gs) ((0x1b ∷ 0x5f ∷ t) ++ 0x1b ∷ 0x5c ∷ []) (finished_events gs)
    (ApcDispatch t
    ∷ EscDispatch [] false 0x5c ∷ []) refl
    (ap (λ x. ApcDispatch x ∷ EscDispatch [] false 0x5c ∷ []) (all_those is_text t h))
    (says_segments gs (λ rest. (
      (refl, all_by is_text in_data text_data t h),
      escape_breaks (0x5c ∷ rest),
      (backslash_ends, refl, tt),
    )))

hooked : (x d : List ℕ) (f : ℕ) (t : Bool) → t ≡ true
    → (if t then (hook_event x f ∷ puts d) ++ DcsUnhook ∷ [] else []) ≡ (hook_event x f ∷ puts d)
    ++ DcsUnhook ∷ []
hooked x d f true e = refl
hooked x d f false e = absurd cc

-- a DCS with a header of its form and data without breakers
pub says_dcs : (x d : List ℕ) (f : ℕ) → AllOf in_body x → is_dcs_header x ≡ true
    → ends_csi (class_of f) ≡ true → AllOf is_put d
    → Says ((((0x1b ∷ 0x50 ∷ []) ++ x ++ f ∷ []) ++ d) ++ 0x1b ∷ 0x5c ∷ [])
    (((hook_event x f ∷ puts d) ++ DcsUnhook ∷ []) ++ EscDispatch [] false 0x5c ∷ [])
says_dcs x d f hx hf he hd =
    let gs : List Segment = Dcs (Long []) x f d ∷ EscapeOf [] 0x5c ∷ [] in
    says_by (joined_bytes gs) ((((0x1b ∷ 0x50 ∷ []) ++ x ++ f ∷ []) ++ d) ++ 0x1b ∷ 0x5c ∷ [])
    (finished_events gs)
    (((hook_event x f ∷ puts d) ++ DcsUnhook ∷ []) ++ EscDispatch [] false 0x5c ∷ []) refl
    (rw (body_strip x hx) (ap (λ es. es ++ EscDispatch [] false 0x5c ∷ [])
    (hooked x d f (is_dcs_header x) hf)))
    (says_segments gs (λ rest. (
      (refl, body_in x hx, he, all_by is_put in_data put_data d hd),
      escape_breaks (0x5c ∷ rest),
      (backslash_ends, refl, tt),
    )))

-- ---- an OSC

-- the units of a clear text
abbrev Units : List ℕ → Type 0
Units t = (ps : List OscUnit) × (text_bytes ps ≡ t) × (text_of ps ≡ t)
    × ((after : List ℕ) → AreOscUnits ps after)

unit_more : (x t : List ℕ) (p : OscUnit) → text_bytes (p ∷ []) ≡ x → text_of (p ∷ []) ≡ x
    → ((after : List ℕ) → IsOscUnit p after) → Units t → Units (x ++ t)
unit_more x t p e f h (ps, b, k, all) = (
  p ∷ ps,
  ap (λ y. y ++ text_bytes ps) (sym (append-nil _) ∙ e) ∙ ap (λ y. x ++ y) b,
  ap (λ y. y ++ text_of ps) (sym (append-nil _) ∙ f) ∙ ap (λ y. x ++ y) k,
  λ after. (h (text_bytes ps ++ after), all after),
)

one_kept : (c : ℕ) → is_text (class_of c) ≡ true → text_of (One c ∷ []) ≡ c ∷ []
one_kept c h = rw h refl

clear_unit : (c : ℕ) (t : List ℕ) → is_clear c ≡ true → Units t → Units (encode_utf8 c ++ t)
clear_unit c t h u = let q = clear_cases c h in elim q.1 [
  | inl l ↦ let k = text_from c l.0 l.1 in
      unit_more (encode_utf8 c) t (One c) (sym (encode_ascii c l.1)) (one_kept c k
      ∙ sym (encode_ascii c l.1))
      (λ after. text_in_osc (class_of c) k) u
  | inr l ↦ let w = spells_clear c q.0 l in
      unit_more (encode_utf8 c) t (Sequence (encode_utf8 c)) (append-nil (encode_utf8 c))
      (append-nil (encode_utf8 c))
      (λ after. (w.0, w.1)) u
]

units : (cs : List ℕ) → list_all is_clear cs ≡ true → Units (encode_utf8_all cs)
units [] h = ([], refl, refl, λ after. tt)
units (c ∷ cs) h = let q = and_parts (is_clear c) (list_all is_clear cs) h in
    clear_unit c (encode_utf8_all cs) q.0 (units cs q.1)

clear_units : (t : List ℕ) → IsClearText t → Units t
clear_units t (cs, all, e) = let P : List ℕ → Type 0 = λ u. Units u in subst P e (units cs all)

escape_breaks_text : (rest : List ℕ) → breaks_text (0x1b ∷ rest) ≡ true
unfolding class_of
escape_breaks_text rest = refl

-- a clear text as an OSC with the string terminator
pub says_osc : (t : List ℕ) → IsClearText t
    → Says ((0x1b ∷ 0x5d ∷ t) ++ 0x1b ∷ 0x5c ∷ []) (OscDispatch (parts_of t)
    ∷ EscDispatch [] false 0x5c ∷ [])
says_osc t h =
    let u = clear_units t h in
    let gs : List Segment = Osc (Long []) u.0 Open ∷ EscapeOf [] 0x5c ∷ [] in
    let text : joined_bytes gs ≡ (0x1b ∷ 0x5d ∷ t) ++ 0x1b ∷ 0x5c
    ∷ [] = ap (λ x. x ++ 0x1b ∷ 0x5c ∷ [])
    (append-nil (0x1b ∷ 0x5d ∷ text_bytes u.0) ∙ ap (λ x. 0x1b ∷ 0x5d ∷ x) u.1) in
    says_by (joined_bytes gs) ((0x1b ∷ 0x5d ∷ t) ++ 0x1b ∷ 0x5c ∷ []) (finished_events gs)
    (OscDispatch (parts_of t) ∷ EscDispatch [] false 0x5c ∷ []) text
    (ap (λ x. OscDispatch (parts_of x) ∷ EscDispatch [] false 0x5c ∷ []) u.2)
    (says_segments gs (λ rest. (
      (refl, u.3 (0x1b ∷ 0x5c ∷ rest), tt),
      escape_breaks_text (0x5c ∷ rest),
      (backslash_ends, refl, tt),
    )))
