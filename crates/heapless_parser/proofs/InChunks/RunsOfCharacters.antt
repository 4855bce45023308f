-- Runs of characters.
use Rattle.std.proofs.Common.{ℕ, ◌≡◌, ◌<◌, true, List, [], ◌∷◌, take, get_or, zero, suc, refl, ap, sym, ◌∙◌, subst, arith}
use Rattle.std.proofs.lemmas.Str.{IsUtf8-from_ascii, chars-IsAscii}
use Rattle.std.proofs.lemmas.Bool.{and_parts}
use Rattle.std.proofs.lemmas.Bool.Decides.{nat_tests}
use Rattle.std.specs.List.{list_all, prefix_len}
use Rattle.std.specs.Str.{IsUtf8}
use Rattle.esc_values.specs.Clear.{is_clear}
use Rattle.esc_frame.proofs.ByteRuns.ClearRuns.{free_text_clear}
use Rattle.esc_frame.proofs.ByteRuns.ManyBytes.{run_passes}
use Rattle.esc_frame.specs.Scans.{is_text_byte, IsFreeTo}
use Rattle.heapless_parser.specs.declared.event.EscEvent.{EscEvent}
use Rattle.heapless_parser.specs.Runs.{IsTextRun}

byte_low : (b : ℕ) → is_text_byte b ≡ true → b < 128
byte_low b h = grind (arith, nat_tests)

byte_clear : (b : ℕ) → is_text_byte b ≡ true → is_clear b ≡ true
byte_clear b h = grind (arith, nat_tests)

all_low : (x : List ℕ) → list_all is_text_byte x ≡ true → (i : ℕ) → get_or x i 0 < 128
all_low [] h i = omega arith
all_low (b ∷ x) h zero = byte_low b (and_parts (is_text_byte b) (list_all is_text_byte x) h).0
all_low (b ∷ x) h (suc i) = all_low x (and_parts (is_text_byte b) (list_all is_text_byte x) h).1 i

all_clear : (x : List ℕ) → list_all is_text_byte x ≡ true → list_all is_clear x ≡ true
all_clear [] h = refl
all_clear (b ∷ x) h =
    let k = and_parts (is_text_byte b) (list_all is_text_byte x) h in let q = all_clear x k.1 in
    rw (byte_clear b k.0, q) refl

pub ascii_is_run : (x : List ℕ) → list_all is_text_byte x ≡ true → IsTextRun x
ascii_is_run x h =
    let low = all_low x h in
    (IsUtf8-from_ascii x low, ap (list_all is_clear) (chars-IsAscii x low) ∙ all_clear x h)

pub prefix_is_run : (bytes : List ℕ) (n : ℕ) → n ≡ prefix_len is_text_byte bytes
    → IsTextRun (take n bytes)
prefix_is_run bytes n e =
    ascii_is_run (take n bytes) (subst (λ k. list_all is_text_byte (take k bytes) ≡ true) (sym e)
    (run_passes is_text_byte bytes))

pub free_is_run : (x : List ℕ) (n : ℕ) → IsFreeTo x n → IsUtf8 (take n x) → IsTextRun (take n x)
free_is_run x n h u = (u, free_text_clear x n h u)

pub no_run : IsTextRun []
no_run = ascii_is_run [] refl

-- an event that may be a run of characters
module _ (e old : EscEvent) (bytes : List ℕ) (none : old.kind ≡ 0) where
  pub text_utf8 : (run : ℕ) → (0 < run → (e.kind ≡ 1) × (e.length ≡ run)) → (run ≡ 0 → e ≡ old)
      → IsTextRun (take run bytes) → e.kind ≡ 1
      → IsUtf8 (take e.length bytes)
  text_utf8 zero some same h k = let was : e.kind ≡ 0 = ap (λ x. x.kind) (same refl) ∙ none in
      absurd (omega (arith, k, was))
  text_utf8 (suc n) some same h k =
      subst (λ m. IsUtf8 (take m bytes)) (sym (some (omega arith)).1) h.0

  pub data_utf8 : (run : ℕ) → (0 < run → (e.kind ≡ 8) × (e.length ≡ run)) → (run ≡ 0 → e ≡ old)
      → e.kind ≡ 1 → IsUtf8 (take e.length bytes)
  data_utf8 zero some same k = let was : e.kind ≡ 0 = ap (λ x. x.kind) (same refl) ∙ none in
      absurd (omega (arith, k, was))
  data_utf8 (suc n) some same k = let is : e.kind ≡ 8 = (some (omega arith)).0 in
      absurd (omega (arith, k, is))
