-- The meaning of texts that are segments, one after another.
use Rattle.std.proofs.Common.{ℕ, ◌≡◌, ◌+◌, ◌≤◌, nat_lt, Bool, true, false, if◌then◌else◌, List, [], ◌∷◌, ◌++◌, length, map, take, Option, inl, inr, refl, ap, sym, ◌∙◌, append-nil, arith}
use Rattle.std.specs.Char.{encode_utf8}
use Rattle.std.specs.List.{list_all}
use Rattle.std.proofs.lemmas.Bool.{and_parts}
use Rattle.std.proofs.lemmas.Bool.Decides.{nat_tests}
use Rattle.std.proofs.lemmas.List.{take_all}
use Rattle.std.proofs.lemmas.Str.{encode_ascii}
use Rattle.esc_values.specs.Clear.{is_clear}
use Rattle.esc_values.specs.Params.{csi_params, is_body_byte, is_csi_body}
use Rattle.esc_values.specs.declared.csi_param.CsiParam.{CsiParam}
use Rattle.esc_sequences.specs.Csis.{csi_of}
use Rattle.esc_frame.specs.declared.classes.Class.{Class}
use Rattle.esc_frame.specs.declared.classes.Class.TheVariants.{Intermediate, Parameter}
use Rattle.esc_frame.specs.Bodies.{has_more_csi_params, kept_csi_params}
use Rattle.esc_frame.specs.Classes.{AllOf, class_of, ends_csi, in_body, is_c0, without_noise}
use Rattle.esc_frame.specs.Segments.{AreSegments, HasShape, Segment, bytes_of, csi_event, csi_events, executes, is_finished, joined_bytes}
use Rattle.esc_frame.specs.Segments.Opener.{Long}
use Rattle.esc_frame.specs.Segments.Segment.{Character, Csi, Wide}
use Rattle.esc_frame.proofs.Cut.WellFormedIsUtf8.{clear_cases, spells_clear}
use Rattle.esc_frame.proofs.Emits.SegmentsSay.{text_from}
use Rattle.esc_frame.proofs.Emits.SequencesSay.{body_in, body_of, body_strip}
use Rattle.esc_actions.specs.Meaning.{meaning_within, values_from}
use Rattle.esc_actions.specs.Readings.{MeansItsSegments, reading_within, readings_of_each}
use Rattle.esc_actions.specs.Values.{Value, csi, plain, print}

-- a text that is one segment, finished by itself, and its meaning
pub record IsRead {A : Type 0} (t : List ℕ) (vs : List (Value A)) : Type 0 where
  pub segment : Segment
  pub bytes : bytes_of segment ≡ t
  pub shape : (rest : List ℕ) → HasShape segment rest × (is_finished segment rest ≡ true)
  pub values : (limit : Option ℕ) → reading_within limit segment true ≡ vs

-- ---- control sequences

body_silent : (c : Class) → in_body c ≡ true → is_c0 c ≡ false
body_silent Intermediate h = refl
body_silent Parameter h = refl
body_silent _ h = absurd cc

body_executes : (x : List ℕ) → AllOf in_body x → executes x ≡ []
body_executes [] h = refl
body_executes (b ∷ x) h =
    let w = and_parts (in_body (class_of b)) (list_all (λ b. in_body (class_of b)) x) h in
    rw (body_silent (class_of b) w.0) (body_executes x w.1)

dispatched : (x : List ℕ) (f : ℕ) (t : Bool) → t ≡ true
    → (if t then csi_event x f ∷ [] else []) ≡ csi_event x f ∷ []
dispatched x f true e = refl
dispatched x f false e = absurd cc

kept_all : (x : List ℕ) (es : List CsiParam) → csi_params x ≡ es → length es ≤ 256
    → (kept_csi_params x ≡ es) × (has_more_csi_params x ≡ false)
unfolding kept_csi_params has_more_csi_params
kept_all x es e few =
    let test : nat_lt 256 (length es) ≡ false = grind (arith, nat_tests) in
    (ap (take 256) e ∙ take_all 256 es few, ap (λ z. nat_lt 256 (length z)) e ∙ test)

-- one with these parameters
pub csi_read : {A : Type 0} (x : List ℕ) (f : ℕ) (es : List CsiParam)
    → list_all is_body_byte x ≡ true → is_csi_body x ≡ true → csi_params x ≡ es
    → length es ≤ 256 → ends_csi (class_of f) ≡ true
    → IsRead {A = A} (0x1b ∷ 0x5b ∷ (x ++ f ∷ [])) (map csi (csi_of es false f))
csi_read {A} x f es bytes body params few ends =
    let all = body_of x bytes in
    let k = kept_all x es params few in
    record {
      segment = Csi (Long []) x f;
      bytes = refl;
      shape = λ rest. ((refl, body_in x all, ends), refl);
      values = λ limit.
          ap (λ z. values_from {A = A} limit plain (z ++ csi_events (without_noise x) f))
          (body_executes x all)
          ∙ ap (λ z. values_from {A = A} limit plain (csi_events z f)) (body_strip x all)
          ∙ ap (values_from {A = A} limit plain) (dispatched x f (is_csi_body x) body)
          ∙ append-nil (map csi (csi_of (kept_csi_params x) (has_more_csi_params x) f))
          ∙ ap (λ z. map csi (csi_of z (has_more_csi_params x) f)) k.0
          ∙ ap (λ b. map csi (csi_of es b f)) k.1;
    }

-- ---- characters

pub print_read : {A : Type 0} (c : ℕ) → is_clear c ≡ true
    → IsRead {A = A} (encode_utf8 c) (print c ∷ [])
print_read {A} c h = let q = clear_cases c h in elim q.1 [
  | inl l ↦ let t = text_from c l.0 l.1 in record {
    segment = Character c;
    bytes = sym (encode_ascii c l.1);
    shape = λ rest. (t, refl);
    values = λ limit. refl;
  }
  | inr l ↦ let w = spells_clear c q.0 l in record {
    segment = Wide (encode_utf8 c);
    bytes = refl;
    shape = λ rest. ((w.0, w.1), refl);
    values = λ limit. ap (λ n. print n ∷ []) w.2;
  }
]

-- ---- texts, one after another

-- texts with their meaning
pub data Reading (A : Type 0) : Type 0 where
  reading : List ℕ → List (Value A) → Reading A

abbrev pub all_texts : {A : Type 0} → List (Reading A) → List ℕ
all_texts [] = []
all_texts (reading t vs ∷ rs) = t ++ all_texts rs

abbrev pub all_values : {A : Type 0} → List (Reading A) → List (Value A)
all_values [] = []
all_values (reading t vs ∷ rs) = vs ++ all_values rs

abbrev pub AreRead : {A : Type 0} → List (Reading A) → Type 0
AreRead [] = Unit {0}
AreRead (reading t vs ∷ rs) = IsRead t vs × AreRead rs

segments : {A : Type 0} (rs : List (Reading A)) → AreRead rs → List Segment
segments [] h = []
segments (reading t vs ∷ rs) h = h.0.segment ∷ segments rs h.1

bytes_are : {A : Type 0} (rs : List (Reading A)) (h : AreRead rs)
    → joined_bytes (segments rs h) ≡ all_texts rs
unfolding segments
bytes_are [] h = refl
bytes_are (reading t vs ∷ rs) h = ap (λ z. z ++ joined_bytes (segments rs h.1)) h.0.bytes
    ∙ ap (λ z. t ++ z) (bytes_are rs h.1)

are_segments : {A : Type 0} (rs : List (Reading A)) (h : AreRead rs) → AreSegments (segments rs h)
unfolding segments
are_segments [] h = tt
are_segments (reading t vs ∷ []) h = (h.0.shape []).0
are_segments (reading t vs ∷ reading u ws ∷ rs) h =
    let rest = joined_bytes (segments (reading u ws ∷ rs) h.1) in
    ((h.0.shape rest).0, (h.0.shape rest).1, are_segments (reading u ws ∷ rs) h.1)

each_read : {A : Type 0} (limit : Option ℕ) (rs : List (Reading A)) (h : AreRead rs)
    → readings_of_each {A = A} limit (segments rs h) ≡ all_values rs
unfolding segments
each_read limit [] h = refl
each_read {A} limit (reading t vs ∷ rs) h =
    let rest = joined_bytes (segments rs h.1) in
    ap (λ b. reading_within {A = A} limit h.0.segment b ++ readings_of_each limit (segments rs h.1))
    (h.0.shape rest).1
    ∙ ap (λ z. z ++ readings_of_each limit (segments rs h.1)) (h.0.values limit)
    ∙ ap (λ z. vs ++ z) (each_read limit rs h.1)

pub texts_mean : {A : Type 0} → MeansItsSegments A → (limit : Option ℕ) (rs : List (Reading A))
    → AreRead rs → meaning_within {A = A} limit (all_texts rs) ≡ all_values rs
texts_mean {A} means limit rs h =
    let gs = segments rs h in
    let same = bytes_are rs h in
    ap (meaning_within {A = A} limit) (sym same)
    ∙ means limit gs (record {
      whole = refl;
      each = are_segments rs h;
    })
    ∙ each_read limit rs h
