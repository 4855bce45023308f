-- Marks of prompts with the key `aid` alone: their texts are those of their parts.
use Rattle.std.proofs.Common.{ℕ, ◌≡◌, ◌==◌, true, false, List, [], ◌∷◌, ◌++◌, length, codes, Some, refl, arith}
use Rattle.std.specs.Option.{option_map}
use Rattle.std.specs.Str.{IsUtf8, is_utf8}
use Rattle.std.proofs.lemmas.Bool.{ne_eqb}
use Rattle.std.proofs.lemmas.List.{append-nil}
use Rattle.std.proofs.lemmas.Str.{is_utf8-from_IsUtf8}
use Rattle.esc_values.proofs.Clear.ClearTexts.{part_utf8}
use Rattle.esc_values.proofs.Clear.PlainPartsAreClear.{plain_part}
use Rattle.esc_values.specs.Clear.{framed_text}
use Rattle.esc_osc.specs.Commands.{command_text}
use Rattle.esc_osc.specs.Reading.{reading}
use Rattle.esc_osc_values.specs.declared.code.OperatingSystemCommandCode.TheVariants as code

key_utf8 : is_utf8 (codes "aid") ≡ true
key_utf8 = is_utf8-from_IsUtf8 (codes "aid")
    (part_utf8 (codes "aid") (plain_part (codes "aid") refl))

some_length : (name : List ℕ) → (length (codes "aid=" ++ name) == 0) ≡ false
some_length name = ne_eqb (length (codes "aid=" ++ name)) 0 (λ e. omega (arith, e))

pub named_start : (A : Type 0) (name : List ℕ) → IsUtf8 name
    → option_map command_text (reading {A = A} code.FinalTermSemanticPrompt (codes "133") (codes "A"
    ∷ (codes "aid=" ++ name) ∷ []))
    ≡ Some (framed_text (codes "133;A;aid=" ++ name))
named_start A name u =
    rw (some_length name, is_utf8-from_IsUtf8 name u, key_utf8, append-nil name) refl

pub named_output : (A : Type 0) (name : List ℕ) → IsUtf8 name
    → option_map command_text (reading {A = A} code.FinalTermSemanticPrompt (codes "133") (codes "C"
    ∷ (codes "aid=" ++ name) ∷ []))
    ≡ Some (framed_text (codes "133;C;aid=" ++ name))
named_output A name u = rw (some_length name, is_utf8-from_IsUtf8 name u, key_utf8) refl

pub named_end : (A : Type 0) (name : List ℕ) → IsUtf8 name
    → option_map command_text (reading {A = A} code.FinalTermSemanticPrompt (codes "133") (codes "N"
    ∷ (codes "aid=" ++ name) ∷ []))
    ≡ Some (framed_text (codes "133;N;aid=" ++ name))
named_end A name u =
    rw (some_length name, is_utf8-from_IsUtf8 name u, key_utf8, append-nil name) refl
