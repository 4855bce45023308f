-- An operation changes the version of Unicode whose widths are used.
use Rattle.std.specs.Prelude.{ℕ, nat_eq, if◌then◌else◌, List, ◌∷◌, ◌++◌, codes, Option, Some, None}
use Rattle.std.specs.Cmp.Lexicographic.{pointwise}
use Rattle.std.specs.Fmt.{decimal}
use Rattle.std.specs.Option.{option_map}
use Rattle.esc_values.specs.Cuts.{cut_at}
use Rattle.esc_values.specs.Scalars.{utf8_of, number_of}
use Rattle.esc_iterm.specs.declared.unicode_version.ITermUnicodeVersionOp.{ITermUnicodeVersionOp}
use Rattle.esc_iterm.specs.declared.unicode_version.ITermUnicodeVersionOp.TheVariants as version

-- a word and a label
abbrev pub labelled_version : {A : Type 0} → List ℕ → List ℕ → Option (ITermUnicodeVersionOp A)
labelled_version w l =
    if pointwise nat_eq w (codes "push") then option_map (λ t. version.Push (Some t)) (utf8_of l)
    else if pointwise nat_eq w (codes "pop") then option_map (λ t. version.Pop (Some t)) (utf8_of l)
    else None

-- a word alone, or a number
abbrev pub unlabelled_version : {A : Type 0} → List ℕ → Option (ITermUnicodeVersionOp A)
unlabelled_version w = if pointwise nat_eq w (codes "push") then Some (version.Push None)
    else if pointwise nat_eq w (codes "pop") then Some (version.Pop None)
    else option_map version.Set (number_of 8 w)

abbrev pub version_from : {A : Type 0} → List ℕ → Option (List ℕ × List ℕ)
    → Option (ITermUnicodeVersionOp A)
version_from t None = unlabelled_version t
version_from t (Some c) = labelled_version c.0 c.1

-- `push` or `pop`, with or without a label after the first space, or a number of 8 bits
abbrev pub version_of : {A : Type 0} → List ℕ → Option (ITermUnicodeVersionOp A)
version_of t = version_from t (cut_at 0x20 t)

-- a label after a space, where there is one
abbrev pub label_text : Option (List ℕ) → List ℕ
label_text None = codes ""
label_text (Some l) = 0x20 ∷ l

-- the text of an operation
abbrev pub version_text : {A : Type 0} → ITermUnicodeVersionOp A → List ℕ
version_text (version.Set n) = decimal n
version_text (version.Push l) = codes "push" ++ label_text l
version_text (version.Pop l) = codes "pop" ++ label_text l
