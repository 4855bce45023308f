-- Dynamic colours, and the codes that change and reset them.
use Rattle.std.proofs.Common.{◌≡◌, ◌⊎◌, inl, inr, ℕ, Bool, true, false, true≢false, sym, not, List, [], ◌∷◌, Some, refl}
use Rattle.std.specs.List.{filter, list_all}
use Rattle.std.proofs.lemmas.Bool.{and_parts}
use Rattle.std.specs.Option.{option_map}
use Rattle.esc_osc_values.specs.Codes.{all_codes, changed_by, reset_by, change_code, reset_code}
use Rattle.esc_osc_values.specs.Colors.{colors_of}
use Rattle.esc_osc.specs.Reading.{reading, dynamic_command}
use Rattle.esc_osc_values.specs.declared.code.OperatingSystemCommandCode.{OperatingSystemCommandCode}
use Rattle.esc_osc_values.specs.declared.code.OperatingSystemCommandCode.TheVariants as code
use Rattle.esc_osc.specs.declared.command.OperatingSystemCommand.TheVariants as command
use Rattle.esc_osc_values.specs.declared.dynamic_color_number.DynamicColorNumber.{DynamicColorNumber}
use Rattle.esc_osc_values.specs.declared.dynamic_color_number.DynamicColorNumber.TheVariants as color

-- codes that have a line of their own
abbrev has_line : OperatingSystemCommandCode → Bool
has_line code.SetIconNameAndWindowTitle = true
has_line code.SetIconName = true
has_line code.SetWindowTitle = true
has_line code.ChangeColorNumber = true
has_line code.SetCurrentWorkingDirectory = true
has_line code.SetHyperlink = true
has_line code.SystemNotification = true
has_line code.ManipulateSelectionData = true
has_line code.ResetColors = true
has_line code.FinalTermSemanticPrompt = true
has_line code.RxvtProprietary = true
has_line code.ITermProprietary = true
has_line code.SetWindowTitleSun = true
has_line code.SetIconNameSun = true
has_line c = false

-- a code is one of these
abbrev pub IsOneOf : OperatingSystemCommandCode → List OperatingSystemCommandCode → Type 0
IsOneOf c [] = true ≡ false
IsOneOf c (k ∷ []) = c ≡ k
IsOneOf c (k ∷ l ∷ ls) = (c ≡ k) ⊎ IsOneOf c (l ∷ ls)

-- those without a line, in the order of the table
abbrev pub without_line : List OperatingSystemCommandCode
without_line = filter (λ c. not (has_line c)) all_codes

has_none : (c : OperatingSystemCommandCode) (ks : List OperatingSystemCommandCode)
    → list_all (λ k. not (has_line k)) ks ≡ true → IsOneOf c ks → not (has_line c) ≡ true
has_none c [] h i = cc
has_none c (k ∷ []) h i = rw i ((and_parts _ _ h).0)
has_none c (k ∷ l ∷ ls) h (inl i) = rw i ((and_parts _ _ h).0)
has_none c (k ∷ l ∷ ls) h (inr i) = has_none c (l ∷ ls) ((and_parts _ _ h).1) i

-- another code
other_reads : (A : Type 0) (c : OperatingSystemCommandCode) (t : List ℕ) (args : List (List ℕ))
    → not (has_line c) ≡ true
    → reading {A = A} c t args ≡ dynamic_command (changed_by c) (reset_by c) args
other_reads A code.SetIconNameAndWindowTitle t args h = absurd (true≢false (sym h))
other_reads A code.SetIconName t args h = absurd (true≢false (sym h))
other_reads A code.SetWindowTitle t args h = absurd (true≢false (sym h))
other_reads A code.ChangeColorNumber t args h = absurd (true≢false (sym h))
other_reads A code.SetCurrentWorkingDirectory t args h = absurd (true≢false (sym h))
other_reads A code.SetHyperlink t args h = absurd (true≢false (sym h))
other_reads A code.SystemNotification t args h = absurd (true≢false (sym h))
other_reads A code.ManipulateSelectionData t args h = absurd (true≢false (sym h))
other_reads A code.ResetColors t args h = absurd (true≢false (sym h))
other_reads A code.FinalTermSemanticPrompt t args h = absurd (true≢false (sym h))
other_reads A code.RxvtProprietary t args h = absurd (true≢false (sym h))
other_reads A code.ITermProprietary t args h = absurd (true≢false (sym h))
other_reads A code.SetWindowTitleSun t args h = absurd (true≢false (sym h))
other_reads A code.SetIconNameSun t args h = absurd (true≢false (sym h))
other_reads A c t args h = refl

pub others_read : (A : Type 0) (c : OperatingSystemCommandCode) (t : List ℕ) (args : List (List ℕ))
    → IsOneOf c without_line
    → reading {A = A} c t args ≡ dynamic_command (changed_by c) (reset_by c) args
others_read A c t args i = other_reads A c t args (has_none c without_line refl i)

-- the codes of a dynamic colour
pub change_reads : (A : Type 0) (n : DynamicColorNumber) (t : List ℕ) (args : List (List ℕ))
    → reading {A = A} (change_code n) t args ≡ option_map (command.ChangeDynamicColors n)
    (colors_of args)
change_reads A color.TextForegroundColor t args = refl
change_reads A n t args = refl

pub reset_reads : (A : Type 0) (n : DynamicColorNumber) (t : List ℕ) (args : List (List ℕ))
    → reading {A = A} (reset_code n) t args ≡ Some (command.ResetDynamicColor n)
reset_reads A color.TextForegroundColor t args = refl
reset_reads A n t args = refl
