-- Characters, controls and control sequences that pass.
use Rattle.std.specs.Prelude.{ℕ, ◌≡◌, ◌==◌, true, false, List, [], ◌∷◌, ◌++◌, length, Option, None, Some}
use Rattle.esc_frame.specs.Classes.{class_of, is_control, is_text}
use Rattle.esc_frame.specs.Segments.{Segment as Shape, joined_bytes}
use Rattle.esc_frame.specs.Segments.Opener.{Long}
use Rattle.esc_frame.specs.Segments.Segment.{Character, Control, Csi, Wide}
use Rattle.esc_frame.specs.Sequences.{is_pair, is_sequence, number_of}
use Rattle.esc_account.specs.Accounts.{Rule, sums_with}
use Rattle.esc_account.specs.AtOnce.{IsSequence}
use Rattle.esc_account.specs.Finished.{account_after}
use Rattle.esc_account.specs.declared.account.Account.{Account}
use Rattle.esc_account.specs.declared.fate.Fate.TheVariants as fates
use Rattle.esc_account.specs.declared.verdict.Verdict.{Verdict}

-- a character of text, 20 to 7F or a well-formed sequence of UTF-8 that is no control; or a control
-- of C0 but carriage return and ESC
abbrev pub IsPlain : Shape → Type 0
IsPlain (Character b) = is_text (class_of b) ≡ true
IsPlain (Wide x) = (is_sequence x ≡ true) × (is_pair x ≡ false)
IsPlain (Control b) = (is_control (class_of b) ≡ true) × ((b == 0x0d) ≡ false)
IsPlain _ = ⊥

-- the character that comes before what is written next, after this one
abbrev pub says : Shape → Option ℕ
says (Character b) = Some b
says (Wide x) = Some (number_of x)
says _ = None

abbrev pub passed_as : Option ℕ → Verdict
passed_as b = record { fate = fates.Passed; before = b }

-- Each of them is one, and passes by itself, after the character b; after them comes c.
abbrev pub AllPass : Rule → Option ℕ → List Shape → Option ℕ → Type 0
AllPass r b [] c = b ≡ c
AllPass r b (g ∷ gs) c =
    IsPlain g × (r b g true ≡ passed_as (says g)) × AllPass r (says g) gs c

-- the bytes are such characters and controls, one after another
abbrev pub IsPassing : Rule → Option ℕ → List ℕ → Option ℕ → Type 0
IsPassing r b x c = (gs : List Shape) × (x ≡ joined_bytes gs) × AllPass r b gs c

-- The bytes begin with such characters and controls, and the rest follows these; they make y of x.
pub record Passes (r : Rule) (x : Account) (bytes rest : List ℕ) (y : Account) : Type 0 where
  pub shapes : List Shape
  pub last : Option ℕ
  pub whole : bytes ≡ joined_bytes shapes ++ rest
  pub pass : AllPass r x.before shapes last
  pub account : y ≡ account_after r x shapes

-- the bytes are a control sequence after `ESC [` without noise, which by itself passes after each
-- character
pub record IsPassedSequence (r : Rule) (bytes : List ℕ) : Type 0 where
  pub rest : List ℕ
  pub final : ℕ
  pub whole : bytes ≡ 0x1b ∷ 0x5b ∷ rest
  pub sequence : IsSequence rest final
  pub passes : (b : Option ℕ) → r b (Csi (Long []) sequence.body final) true ≡ passed_as None

-- the account after the bytes of such a sequence
abbrev pub sequence_passed : List ℕ → Account → Account
sequence_passed bytes x = record x {
  sums = sums_with fates.Passed (length bytes) x.sums;
  string = None;
  before = None;
}
