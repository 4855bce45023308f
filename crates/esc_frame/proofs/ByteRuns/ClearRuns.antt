-- Runs of clear characters in ground, as UTF-8.
use Rattle.std.proofs.Common.{ℕ, ◌⊎◌, ◌≡◌, ◌+◌, ◌-◌, ◌<◌, ◌≤◌, true, false, List, [], ◌∷◌, ◌++◌, map, length, take, drop, get_or, Option, None}
use Rattle.std.proofs.Common.{refl, ap, sym, ◌∙◌, subst, arith, inl, inr, ◌/◌, ◌%◌, nat_lt, length-take, length-append, append_assoc}
use Rattle.std.proofs.lemmas.List.{append-nil, map-append, get_or-take, get_or-drop}
use Rattle.std.proofs.Math.Seq.{get_or-append-add}
use Rattle.std.specs.List.{list_all, prefix_len, FoldsTo}
use Rattle.std.proofs.lemmas.List.Sums.{prefix_len_passes}
use Rattle.std.specs.Char.{encode_utf8}
use Rattle.std.specs.Str.{chars, IsUtf8, encode_utf8_all}
use Rattle.std.proofs.lemmas.Bool.{and_parts, cases_lt}
use Rattle.std.proofs.lemmas.Str.{encode_ascii, encodes-chars, scalars-chars, chars-nil, chars_past_char}
use lib.Utf8.{scalar, scalars}
use Rattle.esc_values.specs.Clear.{is_clear}
use Rattle.esc_frame.specs.Scans.{is_text_byte, is_free_byte, IsFreeTo}
use Rattle.esc_frame.specs.Events.{Event, StopsAt, MayGet}
use Rattle.esc_frame.specs.Events.Event.{Print}
use Rattle.esc_frame.specs.Leads.Unfinished.{Ground}
use Rattle.esc_frame.specs.Machine.Calls.{IsOneEvent}
use Rattle.esc_frame.specs.Machine.Texts.{HasTaken}
use Rattle.esc_frame.specs.Machine.Moves.{after_all, events_all}
use Rattle.esc_frame.proofs.Cut.WellFormedIsUtf8.{clear_cases, clear_from, spells_clear}
use Rattle.esc_frame.proofs.ByteRuns.ManyBytes.{text_run, character_does, stop_within}
use Rattle.esc_frame.proofs.Emits.EventsFold.{folds_then, stops_then, stops_more, refused_stops}
use Rattle.esc_frame.proofs.Emits.MayAfterSome.{get_first, get_rest}
use Rattle.esc_frame.proofs.Emits.EventsAreTheCuts.{after_append, events_append}
use Rattle.std.proofs.lemmas.Bool.Decides.{nat_tests}

text_byte : (c : ℕ) → 0x20 ≤ c → c < 128 → list_all is_text_byte (c ∷ []) ≡ true
text_byte c l h = let k : is_text_byte c ≡ true = grind (arith, nat_tests) in rw k refl

-- a clear character
clear_does : (c : ℕ) → is_clear c ≡ true → IsOneEvent (encode_utf8 c) (Print c)
clear_does c h = let q = clear_cases c h in elim q.1 [
  | inl l ↦ subst (λ x. IsOneEvent x (Print c)) (sym (encode_ascii c l.1))
      (let p = text_byte c l.0 l.1 in
      ((text_run None (c ∷ []) p).0, λ limit. (text_run limit (c ∷ []) p).1))
  | inr l ↦ let s = spells_clear c q.0 l in character_does (encode_utf8 c) c (s.0, s.1, sym s.2)
]

-- clear characters
pub clear_run : (limit : Option ℕ) (cs : List ℕ) → list_all is_clear cs ≡ true
    → (after_all Ground (encode_utf8_all cs) ≡ Ground)
    × (events_all limit Ground (encode_utf8_all cs) ≡ map Print cs)
clear_run limit [] h = (refl, refl)
clear_run limit (c ∷ cs) h =
    let k = and_parts (is_clear c) (list_all is_clear cs) h in
    let one = clear_does c k.0 in
    let more = clear_run limit cs k.1 in (
      after_append Ground (encode_utf8 c) (encode_utf8_all cs)
          ∙ ap (λ u. after_all u (encode_utf8_all cs)) one.0 ∙ more.0,
      events_append limit Ground (encode_utf8 c) (encode_utf8_all cs)
          ∙ ap (λ u.
          events_all limit Ground (encode_utf8 c) ++ events_all limit u (encode_utf8_all cs))
          one.0
          ∙ ap (λ es. es ++ events_all limit Ground (encode_utf8_all cs)) (one.1 limit)
          ∙ ap (λ es. Print c ∷ es) more.1,
    )

-- a text of clear characters
pub clear_text_run : (limit : Option ℕ) (x : List ℕ) → IsUtf8 x → list_all is_clear (chars x) ≡ true
    → (after_all Ground x ≡ Ground) × (events_all limit Ground x ≡ map Print (chars x))
clear_text_run limit x u h =
    subst (λ y. (after_all Ground y ≡ Ground)
    × (events_all limit Ground y ≡ map Print (chars x))) (encodes-chars x u)
    (clear_run limit (chars x) h)

-- ---- bytes without controls

free_byte : (b : ℕ) → is_free_byte b ≡ true → (0x20 ≤ b) × (b ≡ 0xc2 → ⊥)
free_byte b h = (grind (arith, nat_tests), λ e. grind (arith, nat_tests))

-- a shorter prefix
pub free_less : (x : List ℕ) (n m : ℕ) → m ≤ n → IsFreeTo x n → IsFreeTo x m
free_less x n m l h = λ i k. h i (omega arith)

-- the lanes after a part without them
pub free_more : (x : List ℕ) (at n : ℕ) → at + 32 ≤ length x
    → n ≡ prefix_len is_free_byte (take 32 (drop at x)) → n ≤ 32 → IsFreeTo x at
    → IsFreeTo x (at + n)
free_more x at n room e few h i l = elim (cases_lt i at) [
  | inl m ↦ h i m
  | inr m ↦
      let k : ℕ = i - at in
      let place : at + k ≡ i = omega arith in
      let passes = prefix_len_passes is_free_byte (take 32 (drop at x)) k 0 (omega (arith, e)) in
      let same : get_or (take 32 (drop at x)) k 0 ≡ get_or x i 0 =
      get_or-take 32 (drop at x) k 0 (omega arith) ∙ get_or-drop at x k 0
      ∙ ap (λ j. get_or x j 0) place in
      let b = free_byte (get_or x i 0) (ap is_free_byte (sym same) ∙ passes) in
      (b.0, λ f. absurd (b.1 f))
]

-- one byte more
pub free_next : (x : List ℕ) (at : ℕ) → IsFreeTo x at → (0x20 ≤ get_or x at 0)
    × (get_or x at 0 ≡ 0xc2 → 0xa0 ≤ get_or x (at + 1) 0) → IsFreeTo x (at + 1)
free_next x at h b i l = elim (cases_lt i at) [
  | inl m ↦ h i m
  | inr m ↦ let e : at ≡ i = omega arith in
      subst (λ j. (0x20 ≤ get_or x j 0) × (get_or x j 0 ≡ 0xc2 → 0xa0 ≤ get_or x (j + 1) 0)) e b
]

-- none is a control of C0, or C2 unless a byte from A0 on follows
abbrev IsFree : List ℕ → Type 0
IsFree x = (i : ℕ) → i < length x → (0x20 ≤ get_or x i 0)
    × (get_or x i 0 ≡ 0xc2 → i + 1 < length x → 0xa0 ≤ get_or x (i + 1) 0)

free_taken : (x : List ℕ) (n : ℕ) → IsFreeTo x n → IsFree (take n x)
free_taken x n h i l =
    let most : i < n = omega (arith, length-take n x) in
    let same = get_or-take n x i 0 most in (
      omega (arith, (h i most).0, same),
      λ e k.
          let next = get_or-take n x (i + 1) 0 (omega (arith, length-take n x)) in
          omega (arith, (h i most).1 (sym same ∙ e), next),
    )

free_rest : (x y : List ℕ) → IsFree (x ++ y) → IsFree y
free_rest x y h i l =
    let q = h (length x + i) (omega (arith, length-append x y)) in
    let same = get_or-append-add x y i 0 in
    let place : length x + (i + 1) ≡ length x + i + 1 = omega arith in
    let next : get_or (x ++ y) (length x + i + 1) 0 ≡ get_or y (i + 1) 0 =
    ap (λ j. get_or (x ++ y) j 0) (sym place) ∙ get_or-append-add x y (i + 1) 0 in (
      omega (arith, q.0, same),
      λ e k.
          omega (arith, q.1 (same ∙ e) (omega (arith, length-append x y)), next),
    )

low_clear : (c : ℕ) → scalar c ≡ true → 0x20 ≤ c → c < 128 → is_clear c ≡ true
low_clear c s l h = rw s (grind (arith, nat_tests))

pair_bytes : (c : ℕ) → 128 ≤ c → c < 0xa0 → encode_utf8 c ≡ 0xc2 ∷ c ∷ []
unfolding encode_utf8
pair_bytes c l h =
    let one : nat_lt c 128 ≡ false = grind (arith, nat_tests) in
    let two : nat_lt c 2048 ≡ true = grind (arith, nat_tests) in
    let a : 192 + c / 64 ≡ 0xc2 = omega arith in
    let b : 128 + c % 64 ≡ c = omega arith in rw (one, two, a, b) refl

free_first : (c : ℕ) (y : List ℕ) → scalar c ≡ true → IsFree (encode_utf8 c ++ y)
    → is_clear c ≡ true
free_first c y s h = elim (cases_lt c 128) [
  | inl l ↦ let k : IsFree (c ∷ y) = subst (λ x. IsFree (x ++ y)) (encode_ascii c l) h in
      low_clear c s (k 0 (omega arith)).0 l
  | inr l ↦ elim (cases_lt c 0xa0) [
    | inl m ↦
        let k : IsFree (0xc2 ∷ c ∷ y) = subst (λ x. IsFree (x ++ y)) (pair_bytes c l m) h in
        absurd (omega (arith, (k 0 (omega arith)).1 refl (omega arith)))
    | inr m ↦ clear_from c m s
  ]
]

free_clear : (cs : List ℕ) → scalars cs ≡ true → IsFree (encode_utf8_all cs)
    → list_all is_clear cs ≡ true
free_clear [] s h = refl
free_clear (c ∷ cs) s h =
    let k = and_parts (scalar c) (scalars cs) s in
    rw (
      free_first c (encode_utf8_all cs) k.0 h,
      free_clear cs k.1 (free_rest (encode_utf8 c) (encode_utf8_all cs) h),
    ) refl

-- well-formed bytes without controls are clear characters
pub free_text_clear : (x : List ℕ) (n : ℕ) → IsFreeTo x n → IsUtf8 (take n x)
    → list_all is_clear (chars (take n x)) ≡ true
free_text_clear x n h u =
    free_clear (chars (take n x)) (scalars-chars (take n x) u)
    (subst IsFree (sym (encodes-chars (take n x) u)) (free_taken x n h))

-- ---- the events that the actor is given for them

module _ {S : Type 0} (takes refuses : S → Event → S
    → Type 0) (rest text : List ℕ) (n : ℕ) (old new : S) (free : IsFreeTo rest n)
    (is : text ≡ take n rest) (u : IsUtf8 (take n rest)) where
  all_clear : list_all is_clear (chars (take n rest)) ≡ true
  all_clear = free_text_clear rest n free u

  same : map Print (chars text) ≡ map Print (chars (take n rest))
  same = ap (λ x. map Print (chars x)) is

  pub str_clear : list_all is_clear (chars text) ≡ true
  str_clear = ap (λ x. list_all is_clear (chars x)) is ∙ all_clear

  pub str_events : (limit : Option ℕ)
      → events_all limit Ground (take n rest) ≡ map Print (chars text)
  str_events limit = (clear_text_run limit (take n rest) u all_clear).1 ∙ sym same

  pub str_given : FoldsTo takes old (map Print (chars text)) new
      → (after_all Ground (take n rest) ≡ Ground)
      × ((limit : Option ℕ) → FoldsTo takes old (events_all limit Ground (take n rest)) new)
  str_given f = (
    (clear_text_run None (take n rest) u all_clear).0,
    λ limit. subst (λ es. FoldsTo takes old es new)
        (same ∙ sym (clear_text_run limit (take n rest) u all_clear).1) f,
  )

  pub str_stops : (own : Type 0) → StopsAt own takes refuses old (map Print (chars text)) new
      → (limit : Option ℕ) → StopsAt own takes refuses old (events_all limit Ground rest) new
  str_stops own f = λ limit.
      stop_within limit own takes refuses Ground rest n old new
      (subst (λ es. StopsAt own takes refuses old es new)
      (same ∙ sym (clear_text_run limit (take n rest) u all_clear).1) f)

-- ---- the characters of a text, one call a character

pub chars_next : {S : Type 0} (takes : S → Event → S
    → Type 0) (text rest later : List ℕ) (c : ℕ) (old mid new : S) → IsUtf8 rest
    → rest ≡ encode_utf8 c ++ later → HasTaken takes text rest old mid → takes mid (Print c) new
    → HasTaken takes text later old new
chars_next takes text rest later c old mid new u e (cs, is, so) h = (
  cs ++ c ∷ [],
  is ∙ ap (λ x. cs ++ x) (chars_past_char rest later c u e)
      ∙ sym (append_assoc cs (c ∷ []) (chars later)),
  subst (λ es. FoldsTo takes old es new) (sym (map-append Print cs (c ∷ [])))
      (folds_then takes (map Print cs) (Print c ∷ []) old mid new so (new, h, refl)),
)

pub chars_stop : {S : Type 0} (takes refuses : S → Event → S
    → Type 0) (text rest later : List ℕ) (c : ℕ) (old mid new : S) → IsUtf8 rest
    → rest ≡ encode_utf8 c ++ later → HasTaken takes text rest old mid → (own : Type 0)
    → refuses mid (Print c) new
    → StopsAt own takes refuses old (map Print (chars text)) new
chars_stop takes refuses text rest later c old mid new u e (cs, is, so) own h =
    let all : map Print cs ++ ((Print c ∷ []) ++ map Print (chars later)) ≡ map Print (chars text) =
    sym (map-append Print cs (c ∷ chars later))
    ∙ ap (λ x. map Print (cs ++ x)) (sym (chars_past_char rest later c u e))
    ∙ ap (map Print) (sym is) in
    subst (λ es. StopsAt own takes refuses old es new) all
    (stops_then own takes refuses (map Print cs) _ old mid new so
    (stops_more own takes refuses (Print c ∷ []) _ mid new
    (refused_stops own takes refuses mid new (Print c) h)))

pub chars_may : {S : Type 0} (is_ready : S → Type 0) (may : S → Event → Type 0)
    (takes : S → Event → S → Type 0) (text rest later : List ℕ) (c : ℕ) (old mid : S) → IsUtf8 rest
    → rest ≡ encode_utf8 c ++ later → HasTaken takes text rest old mid
    → (is_ready old → is_ready mid)
    → MayGet is_ready may takes old (map Print (chars text)) → is_ready mid ⊎ may mid (Print c)
chars_may is_ready may takes text rest later c old mid u e (cs, is, so) k m =
    let all : map Print cs ++ (Print c ∷ map Print (chars later)) ≡ map Print (chars text) =
    sym (map-append Print cs (c ∷ chars later))
    ∙ ap (λ x. map Print (cs ++ x)) (sym (chars_past_char rest later c u e))
    ∙ ap (map Print) (sym is) in
    get_first is_ready may takes mid mid (Print c) (map Print (chars later))
    (get_rest is_ready may takes old mid (map Print cs) _ (map Print (chars text)) all k so m)

pub chars_done : {S : Type 0} (takes : S → Event → S → Type 0) (text rest : List ℕ) (old new : S)
    → length rest ≡ 0 → HasTaken takes text rest old new
    → FoldsTo takes old (map Print (chars text)) new
chars_done takes text [] old new e (cs, is, so) =
    subst (λ x. FoldsTo takes old (map Print x) new)
    (sym (is ∙ ap (λ x. cs ++ x) chars-nil ∙ append-nil cs)) so
chars_done takes text (b ∷ rest) old new e h = absurd (omega arith)
