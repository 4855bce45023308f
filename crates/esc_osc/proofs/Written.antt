-- A command that is written as a code and parts reads back.
use Rattle.std.proofs.Common.{ℕ, ◌≡◌, ◌≢◌, List, [], ◌∷◌, ◌++◌, Some, refl, sym, ap, ◌∙◌, subst}
use Rattle.std.specs.Option.{unwrap_or}
use Rattle.std.proofs.lemmas.List.{append-nil}
use Rattle.std.proofs.lemmas.Str.{utf8_lossy-IsUtf8}
use Rattle.esc_values.specs.Clear.{IsClearText, IsClearPart, AreClearParts, AreTextParts, semicolon_list, parts_of}
use Rattle.esc_values.proofs.Clear.PlainPartsAreClear.{plain_part}
use Rattle.esc_values.proofs.Clear.SplitAndJoined.{joined_clear, parts_text}
use Rattle.esc_values.proofs.Clear.ClearTexts.{part_utf8}
use Rattle.esc_osc_values.proofs.Codes.{code_of-code_text, code_plain, code_some, code_name_text}
use Rattle.esc_osc_values.specs.Codes.{code_text}
use Rattle.esc_osc.specs.Commands.{inner_text, title_command}
use Rattle.esc_osc.specs.Reading.{meaning, fitting, reading}
use Rattle.esc_osc_values.specs.declared.code.OperatingSystemCommandCode.{OperatingSystemCommandCode}
use Rattle.esc_osc.specs.declared.command.OperatingSystemCommand.{OperatingSystemCommand}
use Rattle.esc_osc.specs.declared.command.OperatingSystemCommand.TheVariants as command

pub code_part : (k : OperatingSystemCommandCode) → IsClearPart (code_text k)
code_part k = plain_part (code_text k) (code_plain k)

-- a code reads the parts after it
pub code_means : {A : Type 0} (k : OperatingSystemCommandCode) (args : List (List ℕ))
    → fitting {A = A} (code_text k ∷ args) ≡ reading k (code_text k) args
code_means k args = rw (
  utf8_lossy-IsUtf8 (code_text k) (part_utf8 (code_text k) (code_part k)),
  code_name_text k args,
  code_of-code_text k,
) refl

-- a command's text is that of a code and clear parts, from which the code reads the command
pub record Written (A : Type 0) (c : OperatingSystemCommand A) : Type 0 where
  pub code : OperatingSystemCommandCode
  pub args : List (List ℕ)
  pub text : inner_text c ≡ semicolon_list (code_text code ∷ args)
  pub clear : AreClearParts args
  pub reads : reading {A = A} code (code_text code) args ≡ Some c

some_text : (k : OperatingSystemCommandCode) (args : List (List ℕ)) → code_text k ∷ args ≢ [] ∷ []
some_text k args e = let none : code_text k ≡ [] = cc in code_some k none

written_parts : (k : OperatingSystemCommandCode) (args : List (List ℕ)) → AreClearParts args
    → AreTextParts (code_text k ∷ args)
written_parts k args h = ((code_part k, h), some_text k args)

pub written_clear : (A : Type 0) (c : OperatingSystemCommand A) → Written A c
    → IsClearText (inner_text c)
written_clear A c w =
    let P : List ℕ → Type 0 = λ u. IsClearText u in
    subst P (sym w.text) (joined_clear (code_text w.code ∷ w.args) (code_part w.code, w.clear))

pub written_back : (A : Type 0) (c : OperatingSystemCommand A) → Written A c
    → meaning (parts_of (inner_text c)) ≡ c
written_back A c w =
    ap (λ x. meaning {A = A} (parts_of x)) w.text
    ∙ ap (meaning {A = A})
    (parts_text (code_text w.code ∷ w.args) (written_parts w.code w.args w.clear)).1
    ∙ ap (λ r. unwrap_or r (command.Unspecified (code_text w.code ∷ w.args)))
    (code_means w.code w.args ∙ w.reads)

-- one part after the code, and two
pub one_written : (k : OperatingSystemCommandCode) (t : List ℕ)
    → title_command k t ≡ semicolon_list (code_text k ∷ t ∷ [])
one_written k t = ap (λ x. code_text k ++ 0x3b ∷ x) (sym (append-nil t))

pub two_written : (k : OperatingSystemCommandCode) (x y : List ℕ)
    → title_command k (x ++ 0x3b ∷ y) ≡ semicolon_list (code_text k ∷ x ∷ y ∷ [])
two_written k x y = ap (λ z. code_text k ++ 0x3b ∷ (x ++ 0x3b ∷ z)) (sym (append-nil y))
