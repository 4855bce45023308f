-- The lossy text of any bytes is a text.
use Rattle.std.proofs.Common.{◌≡◌, ◌≢◌, ℕ, zero, suc, ◌+◌, ◌<◌, ◌≤◌, ◌==◌, nat_lt, Bool, true, false, if◌then◌else◌, Option, Some, None}
use Rattle.std.proofs.Common.{List, [], length, take, drop, slice_index, length-drop, ◌∷◌, ap, subst, ◌∙◌, refl, arith, inl, inr}
use lib.Utf8.{encode}
use Rattle.std.proofs.Math.Seq.{take-length}
use Rattle.std.specs.Int.{is_in_range}
use Rattle.std.specs.Option.{unwrap_or}
use Rattle.std.specs.Str.{IsUtf8, is_utf8}
use Rattle.std.specs.Str.Lossy.{utf8_lossy, utf8_valid_len, valid_len_up_to, after_first_chunk, replacement_bytes}
use Rattle.std.specs.Str.Lossy.{second_byte_min, second_byte_max, error_len_after_two, error_len_after_one, error_len_of_some, utf8_error_len, utf8_invalid_len}
use Rattle.std.proofs.lemmas.Bool.{eqb-true, eqb-false, cases_Bool}
use Rattle.std.proofs.lemmas.Str.{IsUtf8-from_is_utf8, IsUtf8-append, utf8_lossy-IsUtf8, utf8_lossy_step, utf8_lossy_empty, utf8_valid_len_le}

nothing : IsUtf8 []
nothing = ([], (refl, refl))

replacement : IsUtf8 replacement_bytes
unfolding encode
replacement = (0xFFFD ∷ [], (refl, refl))

valid_up_to : (bs : List ℕ) (n : ℕ) → IsUtf8 (take (valid_len_up_to bs n) bs)
valid_up_to bs zero = nothing
valid_up_to bs (suc n) = elim (cases_Bool (is_utf8 (take (suc n) bs))) [
  | inl held ↦ rw held (IsUtf8-from_is_utf8 (take (suc n) bs) held)
  | inr failed ↦ rw failed (valid_up_to bs n)
]

valid : (bs : List ℕ) → IsUtf8 (take (utf8_valid_len bs) bs)
unfolding utf8_valid_len
valid bs = valid_up_to bs (length bs)

whole : (bs : List ℕ) → utf8_valid_len bs ≡ length bs → IsUtf8 bs
whole bs e = subst IsUtf8 (ap (λ n. take n bs) e ∙ take-length bs) (valid bs)

-- an invalid sequence has a byte
either : (b : Bool) (x y : Option ℕ) (n : ℕ) → 0 < unwrap_or x n → 0 < unwrap_or y n
    → 0 < unwrap_or (if b then x else y) n
either true x y n p q = p
either false x y n p q = q

some_invalid : (bs : List ℕ) → 0 < length bs → 0 < utf8_invalid_len bs
unfolding utf8_error_len
some_invalid bs some =
    let n = length bs in
    let third = is_in_range 0x80 0xBF (slice_index bs 2) in
    let second =
    is_in_range (second_byte_min (slice_index bs 0)) (second_byte_max (slice_index bs 0))
    (slice_index bs 1) in
    let first = is_in_range 0xC2 0xF4 (slice_index bs 0) in
    let one : 0 < unwrap_or (Some 1) n = omega arith in
    let two : 0 < unwrap_or (Some 2) n = omega arith in
    let three : 0 < unwrap_or (if nat_lt n 4 then None else Some 3) n =
    either (nat_lt n 4) None (Some 3) n some (omega arith) in
    let after_two : 0 < unwrap_or (error_len_after_two bs) n =
    either (nat_lt n 3) None (if third then (if nat_lt n 4 then None else Some 3) else Some 2) n
    some
    (either third (if nat_lt n 4 then None else Some 3) (Some 2) n three two) in
    let after_one : 0 < unwrap_or (error_len_after_one bs) n =
    either (nat_lt n 2) None (if second then error_len_after_two bs else Some 1) n some
    (either second (error_len_after_two bs) (Some 1) n after_two one) in
    either (n == 0) None (error_len_of_some bs) n some
    (either first (error_len_after_one bs) (Some 1) n after_one one)

shorter : (bs : List ℕ) → utf8_valid_len bs ≢ length bs → length (after_first_chunk bs) < length bs
shorter bs faulty =
    let n = utf8_valid_len bs in
    let within = utf8_valid_len_le bs in
    let invalid = some_invalid (drop n bs) (omega (arith, length-drop n bs)) in
    omega (arith, length-drop (n + utf8_invalid_len (drop n bs)) bs)

of_length : (k : ℕ) (bs : List ℕ) → length bs ≤ k → IsUtf8 (utf8_lossy bs)
of_length zero bs h = rw (utf8_lossy_empty bs (omega arith)) nothing
of_length (suc k) bs h = elim (cases_Bool (utf8_valid_len bs == length bs)) [
  | inl e ↦ let text : IsUtf8 bs = whole bs (eqb-true _ _ e) in rw (utf8_lossy-IsUtf8 bs text) text
  | inr e ↦
      let faulty : utf8_valid_len bs ≢ length bs = eqb-false _ _ e in
      let less = shorter bs faulty in
      rw (utf8_lossy_step bs faulty)
      (IsUtf8-append _ _ (valid bs)
      (IsUtf8-append _ _ replacement
      (of_length k (after_first_chunk bs) (omega (arith, less)))))
]

pub lossy_is_text : (bs : List ℕ) → IsUtf8 (utf8_lossy bs)
lossy_is_text bs = of_length (length bs) bs (omega arith)
