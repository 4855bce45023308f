-- iTerm2's proprietary commands are read from the parts after their code, and written.
use Rattle.std.specs.Prelude.{ℕ, ◌==◌, Bool, true, false, nat_eq, if◌then◌else◌, List, [], ◌∷◌, ◌++◌, length, codes, Option, Some, None}
use Rattle.std.specs.Cmp.Lexicographic.{pointwise}
use Rattle.std.specs.List.{starts_with}
use Rattle.std.specs.Option.{option_map}
use Rattle.std.specs.Str.Lossy.{utf8_lossy}
use Rattle.esc_values.specs.Base64.{base64_text_of, base64_text}
use Rattle.esc_values.specs.Cuts.{key_and_value}
use Rattle.esc_values.specs.Scalars.{and_then}
use Rattle.esc_iterm.specs.Files.{file_of, file_text}
use Rattle.esc_iterm.specs.Tenths.{tenths_of, tenths_text}
use Rattle.esc_iterm.specs.Versions.{version_of, version_text}
use Rattle.esc_iterm.specs.declared.proprietary.ITermProprietary.{ITermProprietary}
use Rattle.esc_iterm.specs.declared.proprietary.ITermProprietary.TheVariants as iterm

-- a keyword alone
abbrev pub lone_keyword : {A : Type 0} → List ℕ → Option (ITermProprietary A)
lone_keyword k = if pointwise nat_eq k (codes "SetMark") then Some iterm.SetMark
    else if pointwise nat_eq k (codes "StealFocus") then Some iterm.StealFocus
    else if pointwise nat_eq k (codes "ClearScrollback") then Some iterm.ClearScrollback
    else if pointwise nat_eq k (codes "EndCopy") then Some iterm.EndCopy
    else if pointwise nat_eq k (codes "ReportCellSize") then Some iterm.RequestCellSize
    else None

-- whether the cursor's line is highlighted
abbrev pub highlight_of : {A : Type 0} → List ℕ → Option (ITermProprietary A)
highlight_of v = if pointwise nat_eq v (codes "yes") then Some (iterm.HighlightCursorLine true)
    else if pointwise nat_eq v (codes "no") then Some (iterm.HighlightCursorLine false)
    else None

-- a variable: its name, an `=` and its value in base64
abbrev pub variable_of : {A : Type 0} → List ℕ → Option (ITermProprietary A)
variable_of v =
    and_then (key_and_value v) (λ (e : List ℕ
    × List ℕ). option_map (λ t. iterm.SetUserVar e.0 t) (base64_text_of e.1))

-- a keyword and its argument in one part
abbrev pub assigned_keyword : {A : Type 0} → List ℕ → List ℕ → Option (ITermProprietary A)
assigned_keyword k v = if pointwise nat_eq k (codes "CurrentDir") then Some (iterm.CurrentDir v)
    else if pointwise nat_eq k (codes "SetProfile") then Some (iterm.SetProfile v)
    else if pointwise nat_eq k (codes "CopyToClipboard") then Some (iterm.CopyToClipboard v)
    else if pointwise nat_eq k (codes "HighlightCursorLine") then highlight_of v
    else if pointwise nat_eq k (codes "SetUserVar") then variable_of v
    else if pointwise nat_eq k (codes "SetBadgeFormat") then option_map iterm.SetBadgeFormat
    (base64_text_of v)
    else if pointwise nat_eq k (codes "UnicodeVersion") then option_map iterm.UnicodeVersion
    (version_of v)
    else None

-- a keyword with nothing after it, and a base64 text in the next part
abbrev pub content_of : {A : Type 0} → List ℕ → List ℕ → Option (ITermProprietary A)
content_of k b = if pointwise nat_eq k (codes "Copy") then option_map iterm.Copy (base64_text_of b)
    else if pointwise nat_eq k (codes "SetBadgeFormat") then option_map iterm.SetBadgeFormat
    (base64_text_of b)
    else None

-- a height, a width and the scale that was found
abbrev pub cell_size : {A : Type 0} → List ℕ → List ℕ → Option ℕ → Option (ITermProprietary A)
cell_size h w s = and_then (tenths_of h) (λ height.
    option_map (λ width. iterm.ReportCellSize height width s) (tenths_of w))

-- a height, a width and a scale
abbrev pub scaled_size : {A : Type 0} → List ℕ → List ℕ → List ℕ → Option (ITermProprietary A)
scaled_size h w s = and_then (tenths_of s) (λ scale. cell_size h w (Some scale))

-- a keyword and its argument in the first part, and one part more
abbrev pub with_one : {A : Type 0} → List ℕ → List ℕ → List ℕ → Option (ITermProprietary A)
with_one k v b = if pointwise nat_eq k (codes "ReportCellSize") then cell_size v b None
    else if length v == 0 then content_of k b
    else None

-- and two parts more
abbrev pub with_two : {A : Type 0} → List ℕ → List ℕ → List ℕ → List ℕ → Option (ITermProprietary A)
with_two k v b c = if pointwise nat_eq k (codes "ReportCellSize") then scaled_size v b c else None

-- a first part without `=`, and the parts after it
abbrev pub bare_keyword : {A : Type 0} → List ℕ → List (List ℕ) → Option (ITermProprietary A)
bare_keyword k [] = lone_keyword k
bare_keyword k (b ∷ []) = content_of k b
bare_keyword k (b ∷ c ∷ more) = None

-- a first part with `=`, cut there, and the parts after it
abbrev pub keyed_word : {A : Type 0} → List ℕ → List ℕ → List (List ℕ) → Option (ITermProprietary A)
keyed_word k v [] = assigned_keyword k v
keyed_word k v (b ∷ []) = with_one k v b
keyed_word k v (b ∷ c ∷ []) = with_two k v b c
keyed_word k v (b ∷ c ∷ d ∷ more) = None

abbrev pub form_from : {A : Type 0} → List ℕ → Option (List ℕ × List ℕ) → List (List ℕ)
    → Option (ITermProprietary A)
form_from t None more = bare_keyword t more
form_from t (Some e) more = keyed_word e.0 e.1 more

-- every form but a file: the first part as a text, cut at its first `=`, and the parts after it
abbrev pub form_of : {A : Type 0} → List ℕ → List (List ℕ) → Option (ITermProprietary A)
form_of t more = form_from t (key_and_value t) more

-- The parts after the code mean this; none if they fit no form. The keyword is that of the lossy
-- text of the first part. `File=` is ASCII, so it begins the lossy text exactly if it begins the
-- part.
abbrev pub iterm_of : {A : Type 0} → List (List ℕ) → Option (ITermProprietary A)
iterm_of [] = None
iterm_of (p ∷ more) = if starts_with nat_eq p (codes "File=") then option_map iterm.File
    (file_of (p ∷ more)) else form_of (utf8_lossy p) more

-- `yes` or `no`
abbrev pub flag_text : Bool → List ℕ
flag_text true = codes "yes"
flag_text false = codes "no"

-- a scale after a `;`, where there is one
abbrev pub scale_text : Option ℕ → List ℕ
scale_text None = codes ""
scale_text (Some s) = 0x3b ∷ tenths_text s

-- the text after `1337;`
abbrev pub form_text : {A : Type 0} → ITermProprietary A → List ℕ
form_text iterm.SetMark = codes "SetMark"
form_text iterm.StealFocus = codes "StealFocus"
form_text iterm.ClearScrollback = codes "ClearScrollback"
form_text (iterm.CurrentDir t) = codes "CurrentDir=" ++ t
form_text (iterm.SetProfile t) = codes "SetProfile=" ++ t
form_text (iterm.CopyToClipboard t) = codes "CopyToClipboard=" ++ t
form_text iterm.EndCopy = codes "EndCopy"
form_text (iterm.HighlightCursorLine b) = codes "HighlightCursorLine=" ++ flag_text b
form_text iterm.RequestCellSize = codes "ReportCellSize"
form_text (iterm.ReportCellSize h w s) =
    codes "ReportCellSize=" ++ (tenths_text h ++ 0x3b ∷ (tenths_text w ++ scale_text s))
form_text (iterm.Copy t) = codes "Copy=;" ++ base64_text t
form_text (iterm.ReportVariable t) = codes "ReportVariable=" ++ base64_text t
form_text (iterm.SetUserVar n t) = codes "SetUserVar=" ++ n ++ 0x3d ∷ base64_text t
form_text (iterm.SetBadgeFormat t) = codes "SetBadgeFormat=" ++ base64_text t
form_text (iterm.File d) = file_text d
form_text (iterm.UnicodeVersion v) = codes "UnicodeVersion=" ++ version_text v

-- the text between `ESC ]` and the string terminator
abbrev pub iterm_text : {A : Type 0} → ITermProprietary A → List ℕ
iterm_text c = codes "1337;" ++ form_text c
