-- A filter over its own output.
use Rattle.std.specs.Prelude.{ℕ, ◌≡◌, ◌⊎◌, Bool, true, false, if◌then◌else◌, List, [], ◌∷◌, ◌++◌, Option, None, Some}
use Rattle.std.specs.List.{list_all}
use Rattle.esc_actions.specs.Meaning.{meaning, meaning_within}
use Rattle.esc_sequences.specs.Csis.{CsiValue, sgr}
use Rattle.esc_sequences.specs.declared.sgr.Sgr.TheVariants.{Reset}
use Rattle.esc_osc.specs.declared.command.OperatingSystemCommand.{OperatingSystemCommand}
use Rattle.esc_osc.specs.declared.command.OperatingSystemCommand.TheVariants as command
use Rattle.esc_actions.specs.Values.{Value, csi, osc}
use Rattle.esc_filter.specs.Characters.{keeps_all}
use Rattle.esc_filter.specs.Closing.{closing}
use Rattle.esc_filter.specs.Known.{IsPassedText}
use Rattle.esc_filter.specs.Lines.{body, content, ends_line}
use Rattle.esc_filter.specs.Rules.{admits}
use Rattle.esc_filter.specs.declared.guard.Guard.{Guard}
use Rattle.esc_filter.specs.declared.policy.Policy.{Policy}

-- ---- policies

-- whatever values a policy admits, it admits the values that undo their changes
abbrev pub AdmitsItsClosing : {A : Type 0} → (Value A → Bool) → Type 0
AdmitsItsClosing {A} f =
    (vs : List (Value A)) → list_all f vs ≡ true → list_all f (closing f vs) ≡ true

-- all is written as it is, or the replacement is text, which the policy admits
abbrev pub AdmitsInstead : {A : Type 0} → Guard → (Value A → Bool) → Type 0
AdmitsInstead u f = (keeps_all u ≡ true) ⊎ IsPassedText f

-- if it admits a control sequence it admits the reset of renditions, and if it admits a command,
-- the end of a link
abbrev pub AdmitsResets : {A : Type 0} → (Value A → Bool) → Type 0
AdmitsResets {A} f = ((c : CsiValue) → f (csi c) ≡ true → f (csi (sgr Reset)) ≡ true)
    × ((c : OperatingSystemCommand A) → f (osc c) ≡ true
    → f (osc (command.SetHyperlink None)) ≡ true)

-- a filter of these values admits exactly those that the policy p admits
abbrev pub AdmitsAs : {A : Type 0} → Policy → (Value A → Bool) → Type 0
AdmitsAs {A} p f = (v : Value A) → f v ≡ admits p v

-- ---- limits

-- no more is left out of these bytes under the limit than without one
abbrev pub IsKept : Type 0 → Option ℕ → List ℕ → Type 0
IsKept A limit s = meaning_within {A = A} limit s ≡ meaning s

-- the part of a line that is read: without a carriage return that is a part of its end
abbrev pub read_of_line : List ℕ → List ℕ
read_of_line l = if ends_line false l then body (content l) ++ 0x0a ∷ [] else l

-- the same for each of these lines
abbrev pub AreKept : Type 0 → ℕ → List (List ℕ) → Type 0
AreKept A limit [] = Unit {0}
AreKept A limit (l ∷ ls) = IsKept A (Some limit) (read_of_line l) × AreKept A limit ls
