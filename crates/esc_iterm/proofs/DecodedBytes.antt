-- Base64 decodes to bytes.
use Rattle.std.proofs.Common.{◌≡◌, ◌≢◌, ℕ, zero, suc, ◌+◌, ◌*◌, ◌<◌, Bool, true, nat_lt, ◌==◌, ◌||◌, List, [], ◌∷◌, length, take, drop, Option, Some}
use Rattle.std.proofs.Common.{None, Result, Ok, Err, refl, arith, inl, inr, subst}
use Rattle.std.specs.List.{slice_index, slice_set}
use Rattle.std.specs.Result.{result_ok}
use Rattle.std.proofs.lemmas.Bool.{eqb-false, ne_eqb, ltb-true, cases_lt, cases_Bool}
use Rattle.std.proofs.lemmas.List.{get_or_past}
use Rattle.base64.specs.Decode.{or_else, symbol_error, group_error, decode_group, groups_error, groups_bytes, groups_before_last, push_leftover}
use Rattle.base64.specs.Decode.{no_leftover, scan_steps, scan_last, scan_bytes, lone_error, decode_error, decode_outcome, decoded_bytes}
use Rattle.base64.specs.GeneralPurpose.{IsBytes}
use Rattle.base64.specs.Tables.{all_below}
use Rattle.base64.specs.declared.decode.DecodeError.{DecodeError}
use Rattle.base64.specs.declared.engine.DecodePaddingMode.TheVariants.{RequireCanonical}
use Rattle.base64.proofs.Tables.{all_below_at}
use Rattle.esc_values.specs.Base64.{engine_value, base64_of}
use Rattle.esc_values.proofs.Codecs.TextBytesAreBytes.{AreBytes, bytes_append, by_index}

abbrev table : List ℕ
table = engine_value.decode_table

-- each value of the table is below 64, or 255
abbrev is_value : ℕ → Bool
is_value x = (slice_index table x == 255) || nat_lt (slice_index table x) 64

values_hold : all_below is_value 256 ≡ true
values_hold = refl

value_low : (a : ℕ) → ((a == 255) || nat_lt a 64) ≡ true → a ≢ 255 → a < 64
value_low a h other = ltb-true a 64 (rw (ne_eqb a 255 other) at h)

symbol_low : (x : ℕ) → slice_index table x ≢ 255 → slice_index table x < 64
symbol_low x other = elim (cases_lt x 256) [
  | inl low ↦ value_low (slice_index table x) (all_below_at is_value 256 x values_hold low) other
  | inr high ↦ let past : slice_index table x ≡ 0 = get_or_past table x 0 high in omega arith
]

-- the whole groups
or_else_none : (x y : Option DecodeError) → or_else x y ≡ None → (x ≡ None) × (y ≡ None)
or_else_none None y h = (refl, h)
or_else_none (Some e) y h = absurd cc

symbol_passed : (s : List ℕ) (i : ℕ) → symbol_error table s i ≡ None
    → slice_index table (slice_index s i) < 64
symbol_passed s i h = elim (cases_Bool (slice_index table (slice_index s i) == 255)) [
  | inl none ↦ absurd (let bad = rw none at h in cc)
  | inr some ↦ symbol_low (slice_index s i) (eqb-false (slice_index table (slice_index s i)) 255
      some)
]

group_low : (a b c d : ℕ) → a < 64 → b < 64 → c < 64 → d < 64 → AreBytes (decode_group a b c d)
group_low a b c d one two three four = (omega arith, (omega arith, (omega arith, tt)))

group_passed : (s : List ℕ) (i : ℕ) → group_error table s i ≡ None
    → AreBytes
    (decode_group (slice_index table (slice_index s i)) (slice_index table (slice_index s (i + 1)))
    (slice_index table (slice_index s (i + 2)))
    (slice_index table (slice_index s (i + 3))))
group_passed s i h =
    let one = or_else_none (symbol_error table s i) _ h in
    let two = or_else_none (symbol_error table s (i + 1)) _ one.1 in
    let three = or_else_none (symbol_error table s (i + 2)) (symbol_error table s (i + 3)) two.1 in
    group_low _ _ _ _ (symbol_passed s i one.0) (symbol_passed s (i + 1) two.0)
    (symbol_passed s (i + 2) three.0) (symbol_passed s (i + 3) three.1)

groups_passed : (s : List ℕ) (q : ℕ) → groups_error table s q ≡ None
    → AreBytes (groups_bytes table s q)
unfolding groups_error groups_bytes
groups_passed s zero h = tt
groups_passed s (suc q) h =
    let parts = or_else_none (groups_error table s q) (group_error table s (4 * q)) h in
    bytes_append (groups_bytes table s q) _ (groups_passed s q parts.0)
    (group_passed s (4 * q) parts.1)

-- the last symbols
abbrev AreLow : List ℕ → Type 0
AreLow [] = Unit {0}
AreLow (x ∷ xs) = (x < 64) × AreLow xs

low_at : (xs : List ℕ) (i : ℕ) → AreLow xs → slice_index xs i < 64
low_at [] i h = omega arith
low_at (x ∷ xs) zero h = h.0
low_at (x ∷ xs) (suc i) h = low_at xs i h.1

low_set : (xs : List ℕ) (i v : ℕ) → AreLow xs → v < 64 → AreLow (slice_set xs i v)
low_set [] i v h small = tt
low_set (x ∷ xs) zero v h small = (small, h.1)
low_set (x ∷ xs) (suc i) v h small = (h.0, low_set xs i v h.1 small)

-- the values that a state has kept
abbrev IsLow : {L : Type 0} → Result L DecodeError → (L → List ℕ) → Type 0
IsLow (Ok st) kept = AreLow (kept st)
IsLow (Err e) kept = Unit {0}

push_low : (pad at : ℕ) (st : _) (i b : ℕ) (r : _) → push_leftover table pad at st i b ≡ r
    → AreLow st.morsels → IsLow r (λ s. s.morsels)
push_low pad at st i b r e h = elim (cases_Bool (b == pad)) [
  | inl same ↦ elim (cases_Bool (nat_lt i 2)) [
    | inl early ↦ let k = rw (same, early) at e in rw (← k) tt
    | inr late ↦ let k = rw (same, late) at e in rw (← k) h
  ]
  | inr other ↦ elim (cases_Bool (nat_lt 0 st.padding_count)) [
    | inl later ↦ let k = rw (other, later) at e in rw (← k) tt
    | inr before ↦ elim (cases_Bool (slice_index table b == 255)) [
      | inl none ↦ let k = rw (other, before, none) at e in rw (← k) tt
      | inr some ↦ let k = rw (other, before, some) at e in
          rw (← k) (low_set st.morsels st.morsels_count (slice_index table b) h
          (symbol_low b (eqb-false (slice_index table b) 255 some)))
    ]
  ]
]

scan_low : (pad at : ℕ) (bs : List ℕ) (r : _) (i : ℕ) (out : _)
    → scan_steps table pad at r i bs ≡ out → IsLow r (λ s. s.morsels) → IsLow out (λ s. s.morsels)
unfolding scan_steps
scan_low pad at [] (Ok st) i out e h = rw (← e) h
scan_low pad at [] (Err x) i out e h = rw (← e) tt
scan_low pad at (b ∷ bs) (Ok st) i out e h =
    scan_low pad at bs (push_leftover table pad at st i b) (i + 1) out e
    (push_low pad at st i b (push_leftover table pad at st i b) refl h)
scan_low pad at (b ∷ bs) (Err x) i out e h = rw (← e) tt

take_bytes : (n : ℕ) (xs : List ℕ) → AreBytes xs → AreBytes (take n xs)
take_bytes zero xs h = tt
take_bytes (suc n) [] h = tt
take_bytes (suc n) (x ∷ xs) h = (h.0, take_bytes n xs h.1)

scan_bytes_low : (r : _) (out : List ℕ) → scan_bytes r ≡ out → IsLow r (λ s. s.morsels)
    → AreBytes (scan_bytes r)
scan_bytes_low (Ok st) out e h =
    take_bytes _ _ (group_low _ _ _ _ (low_at st.morsels 0 h) (low_at st.morsels 1 h)
    (low_at st.morsels 2 h) (low_at st.morsels 3 h))
scan_bytes_low (Err x) out e h = tt

four : AreLow no_leftover.morsels
four = (omega arith, (omega arith, (omega arith, (omega arith, tt))))

-- the whole
decoded_low : (s : List ℕ) → decode_error table 61 true RequireCanonical s ≡ None
    → AreBytes (decoded_bytes table 61 s)
decoded_low s h =
    let parts = or_else_none (lone_error table 61 s) _ h in
    let more = or_else_none (groups_error table s (groups_before_last (length s))) _ parts.1 in
    bytes_append (groups_bytes table s (groups_before_last (length s))) _
    (groups_passed s (groups_before_last (length s)) more.0)
    (scan_bytes_low (scan_last table 61 (4 * groups_before_last (length s)) s) _ refl
    (scan_low 61 (4 * groups_before_last (length s)) (drop (4 * groups_before_last (length s)) s)
    (Ok no_leftover) 0 _ refl four))

outcome : (x : Option DecodeError) (bytes m : List ℕ) → (x ≡ None → AreBytes bytes)
    → result_ok (decode_outcome x bytes) ≡ Some m → IsBytes m
outcome None bytes m h e = by_index m (let P : List ℕ → Type 0 = λ bs. AreBytes bs in
    subst P (let same : bytes ≡ m = cc in same) (h refl))
outcome (Some x) bytes m h e = absurd cc

pub decoded_are_bytes : (s m : List ℕ) → base64_of s ≡ Some m → IsBytes m
decoded_are_bytes s m e = outcome (decode_error table 61 true RequireCanonical s)
    (decoded_bytes table 61 s) m (decoded_low s) e
