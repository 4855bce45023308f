-- The base64 of bytes is a clear part that reads back.
use Rattle.std.proofs.Common.{◌≡◌, ℕ, zero, suc, ◌+◌, ◌*◌, ◌/◌, ◌%◌, ◌<◌, Bool, true, List, [], ◌∷◌, length, replicate, Some, Ok, refl, arith}
use Rattle.std.specs.List.{slice_index, list_all}
use Rattle.std.specs.Str.{IsUtf8}
use Rattle.std.proofs.lemmas.Str.{is_utf8-from_IsUtf8}
use Rattle.base64.specs.Rfc4648.{encode_symbols, padding_len}
use Rattle.base64.specs.Engines.{standard}
use Rattle.base64.specs.GeneralPurpose.{IsBytes, encode_of, decode_of}
use Rattle.base64.specs.Tables.{all_below}
use Rattle.base64.proofs.Tables.{all_below_at}
use Rattle.base64.proofs.EngineFacts.{decode_of-encode_of}
use Rattle.esc_values.specs.Clear.{IsClearPart}
use Rattle.esc_values.specs.Base64.{engine_value, base64_of, base64_text_of, base64_text}
use Rattle.esc_values.proofs.Clear.PlainPartsAreClear.{is_part_plain, plain_part, all_append}
use Rattle.esc_values.proofs.Codecs.TextBytesAreBytes.{AreBytes, utf8_bytes, utf8_are_bytes}

abbrev table : List ℕ
table = standard.encode_table

-- the symbols pass a test that all the symbols of the table pass
symbol_passes : (f : ℕ → Bool) → all_below (λ i. f (slice_index table i)) 64 ≡ true → (i : ℕ)
    → i < 64 → f (slice_index table i) ≡ true
symbol_passes f all i low = all_below_at (λ j. f (slice_index table j)) 64 i all low

symbols_pass : (f : ℕ → Bool) → all_below (λ i. f (slice_index table i)) 64 ≡ true → (m : List ℕ)
    → AreBytes m → list_all f (encode_symbols table m) ≡ true
unfolding encode_symbols
symbols_pass f all [] h = refl
symbols_pass f all (a ∷ []) h =
    let small = h.0 in
    rw (symbol_passes f all (a / 4) (omega arith), symbol_passes f all (a % 4 * 16) (omega arith))
    refl
symbols_pass f all (a ∷ b ∷ []) h =
    let one = h.0 in
    let two = h.1.0 in
    rw (
      symbol_passes f all (a / 4) (omega arith),
      symbol_passes f all (a % 4 * 16 + b / 16) (omega arith),
      symbol_passes f all (b % 16 * 4) (omega arith),
    ) refl
symbols_pass f all (a ∷ b ∷ c ∷ rest) h =
    let one = h.0 in
    let two = h.1.0 in
    let three = h.1.1.0 in
    rw (
      symbol_passes f all (a / 4) (omega arith),
      symbol_passes f all (a % 4 * 16 + b / 16) (omega arith),
      symbol_passes f all (b % 16 * 4 + c / 64) (omega arith),
      symbol_passes f all (c % 64) (omega arith),
      symbols_pass f all rest h.1.1.1,
    ) refl

padding_passes : (f : ℕ → Bool) → f 0x3d ≡ true → (n : ℕ) → list_all f (replicate n 0x3d) ≡ true
padding_passes f one zero = refl
padding_passes f one (suc n) = rw (one, padding_passes f one n) refl

-- the base64 of bytes passes a test that the symbols and `=` pass
pub base64_passes : (f : ℕ → Bool) → all_below (λ i. f (slice_index table i)) 64 ≡ true
    → f 0x3d ≡ true → (m : List ℕ) → AreBytes m
    → list_all f (base64_text m) ≡ true
base64_passes f all one m h =
    all_append f (encode_symbols table m) (replicate (padding_len (length m)) 0x3d)
    (symbols_pass f all m h) (padding_passes f one (padding_len (length m)))

-- the base64 of bytes is a clear part
pub base64_bytes_part : (m : List ℕ) → AreBytes m → IsClearPart (base64_text m)
base64_bytes_part m h = plain_part (base64_text m) (base64_passes is_part_plain refl refl m h)

-- that reads back
pub base64_bytes_back : (m : List ℕ) → IsBytes m → base64_of (base64_text m) ≡ Some m
base64_bytes_back m h =
    let decoded : decode_of engine_value (encode_of standard m) ≡ Ok m =
    decode_of-encode_of engine_value m refl h in
    rw decoded

-- the base64 of a text is a clear part
pub base64_part : (t : List ℕ) → IsUtf8 t → IsClearPart (base64_text t)
base64_part t h = base64_bytes_part t (utf8_are_bytes t h)

-- that reads back
pub base64_back : (t : List ℕ) → IsUtf8 t → base64_text_of (base64_text t) ≡ Some t
base64_back t h = rw (base64_bytes_back t (utf8_bytes t h), is_utf8-from_IsUtf8 t h) refl
