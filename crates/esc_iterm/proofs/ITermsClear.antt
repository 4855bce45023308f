-- A command that clear parts mean is writable.
use Rattle.std.proofs.Common.{ℕ, ◌≡◌, ◌==◌, true, false, nat_eq, List, [], ◌∷◌, length, codes, Option, Some, None, sym, subst}
use Rattle.std.specs.Cmp.Lexicographic.{pointwise}
use Rattle.std.specs.List.{starts_with}
use Rattle.std.specs.Option.{option_map}
use Rattle.std.specs.Str.{IsUtf8}
use Rattle.std.specs.Str.Lossy.{utf8_lossy}
use Rattle.esc_values.specs.Base64.{base64_text_of}
use Rattle.esc_values.specs.Clear.{IsClearPart, AreClearParts}
use Rattle.esc_values.specs.Cuts.{key_and_value}
use Rattle.esc_values.proofs.Clear.ClearPairs.{IsClearPair, key_clear}
use Rattle.esc_values.proofs.Clear.ClearTexts.{part_lossy}
use Rattle.esc_values.proofs.Numbers.FactsIfSome.{Where, where_from, where_if, where_map, where_then, content_where}
use Rattle.esc_iterm.specs.Files.{file_of, IsWritableFile}
use Rattle.esc_iterm.specs.ITerms.{lone_keyword, highlight_of, variable_of, assigned_keyword, content_of, cell_size, scaled_size, with_one, with_two, bare_keyword, keyed_word}
use Rattle.esc_iterm.specs.ITerms.{form_from, form_of, iterm_of}
use Rattle.esc_iterm.specs.Tenths.{tenths_of}
use Rattle.esc_iterm.specs.Versions.{version_of}
use Rattle.esc_iterm.specs.WritableITerms.{IsScale, IsVersion, IsWritableITerm}
use Rattle.esc_iterm.specs.declared.file_data.ITermFileData.{ITermFileData}
use Rattle.esc_iterm.specs.declared.proprietary.ITermProprietary.{ITermProprietary}
use Rattle.esc_iterm.specs.declared.proprietary.ITermProprietary.TheVariants as iterm
use Rattle.esc_iterm.proofs.FilesWritable.{file_is_writable}
use Rattle.esc_iterm.proofs.TenthsBack.{IsSmall, tenths_where}
use Rattle.esc_iterm.proofs.VersionsBack.{version_where}

-- a writable command
abbrev Good : (A : Type 0) → ITermProprietary A → Type 0
Good A c = IsWritableITerm {A = A} c

alone_good : (A : Type 0) (k : List ℕ) → Where (Good A) (lone_keyword k)
alone_good A k =
    where_if (Good A) (pointwise nat_eq k (codes "SetMark")) (Some iterm.SetMark) _ tt
    (where_if (Good A) (pointwise nat_eq k (codes "StealFocus")) (Some iterm.StealFocus) _ tt
    (where_if (Good A) (pointwise nat_eq k (codes "ClearScrollback")) (Some iterm.ClearScrollback) _
    tt
    (where_if (Good A) (pointwise nat_eq k (codes "EndCopy")) (Some iterm.EndCopy) _ tt
    (where_if (Good A) (pointwise nat_eq k (codes "ReportCellSize")) (Some iterm.RequestCellSize)
    None tt tt))))

highlight_good : (A : Type 0) (v : List ℕ) → Where (Good A) (highlight_of v)
highlight_good A v =
    where_if (Good A) (pointwise nat_eq v (codes "yes")) (Some (iterm.HighlightCursorLine true)) _
    tt
    (where_if (Good A) (pointwise nat_eq v (codes "no")) (Some (iterm.HighlightCursorLine false))
    None tt tt)

variable_good : (A : Type 0) (v : List ℕ) → IsClearPart v → Where (Good A) (variable_of v)
variable_good A v h =
    where_then IsClearPair (Good A) (λ (e : List ℕ
    × List ℕ). option_map (λ t. iterm.SetUserVar e.0 t) (base64_text_of e.1))
    (λ e q. where_map (λ u. IsUtf8 u) (Good A) (λ t. iterm.SetUserVar e.0 t) (λ t u.
    (q.0.0, q.1, u)) (base64_text_of e.1) (content_where e.1))
    (key_and_value v) (key_clear v h)

badge_good : (A : Type 0) (b : List ℕ)
    → Where (Good A) (option_map iterm.SetBadgeFormat (base64_text_of b))
badge_good A b = where_map (λ u. IsUtf8 u) (Good A) iterm.SetBadgeFormat (λ t u.
    u) (base64_text_of b) (content_where b)

version_good : (A : Type 0) (v : List ℕ) → IsClearPart v
    → Where (Good A) (option_map iterm.UnicodeVersion (version_of v))
version_good A v h = where_map (λ u. IsVersion {A = A} u) (Good A) iterm.UnicodeVersion (λ t u.
    u) (version_of v) (version_where A v h)

assigned_good : (A : Type 0) (k v : List ℕ) → IsClearPart v → Where (Good A) (assigned_keyword k v)
assigned_good A k v clear =
    where_if (Good A) (pointwise nat_eq k (codes "CurrentDir")) (Some (iterm.CurrentDir v)) _ clear
    (where_if (Good A) (pointwise nat_eq k (codes "SetProfile")) (Some (iterm.SetProfile v)) _ clear
    (where_if (Good A) (pointwise nat_eq k (codes "CopyToClipboard"))
    (Some (iterm.CopyToClipboard v)) _ clear
    (where_if (Good A) (pointwise nat_eq k (codes "HighlightCursorLine")) (highlight_of v) _
    (highlight_good A v)
    (where_if (Good A) (pointwise nat_eq k (codes "SetUserVar")) _ _ (variable_good A v clear)
    (where_if (Good A) (pointwise nat_eq k (codes "SetBadgeFormat")) _ _ (badge_good A v)
    (where_if (Good A) (pointwise nat_eq k (codes "UnicodeVersion")) _ None (version_good A v clear)
    tt))))))

content_good : (A : Type 0) (k b : List ℕ) → Where (Good A) (content_of k b)
content_good A k b =
    where_if (Good A) (pointwise nat_eq k (codes "Copy")) _ _
    (where_map (λ u. IsUtf8 u) (Good A) iterm.Copy (λ t u. u) (base64_text_of b) (content_where b))
    (where_if (Good A) (pointwise nat_eq k (codes "SetBadgeFormat")) _ None (badge_good A b) tt)

cell_good : (A : Type 0) (h w : List ℕ) (s : Option ℕ) → IsScale s
    → Where (Good A) (cell_size h w s)
cell_good A h w s scale =
    where_then (λ n. IsSmall n) (Good A) (λ height.
    option_map (λ width. iterm.ReportCellSize height width s) (tenths_of w))
    (λ height p. where_map (λ n. IsSmall n) (Good A) (λ width. iterm.ReportCellSize height width s)
    (λ width q. (p, q, scale)) (tenths_of w) (tenths_where w))
    (tenths_of h) (tenths_where h)

scaled_good : (A : Type 0) (h w s : List ℕ) → Where (Good A) (scaled_size h w s)
scaled_good A h w s =
    where_then (λ n. IsSmall n) (Good A) (λ scale. cell_size h w (Some scale)) (λ scale p.
    cell_good A h w (Some scale) p) (tenths_of s) (tenths_where s)

one_good : (A : Type 0) (k v b : List ℕ) → Where (Good A) (with_one k v b)
one_good A k v b =
    where_if (Good A) (pointwise nat_eq k (codes "ReportCellSize")) _ _ (cell_good A v b None tt)
    (where_if (Good A) (length v == 0) _ None (content_good A k b) tt)

two_good : (A : Type 0) (k v b c : List ℕ) → Where (Good A) (with_two k v b c)
two_good A k v b c =
    where_if (Good A) (pointwise nat_eq k (codes "ReportCellSize")) _ None (scaled_good A v b c) tt

bare_good : (A : Type 0) (k : List ℕ) (more : List (List ℕ)) → Where (Good A) (bare_keyword k more)
bare_good A k [] = alone_good A k
bare_good A k (b ∷ []) = content_good A k b
bare_good A k (b ∷ c ∷ more) = tt

keyed_good : (A : Type 0) (k v : List ℕ) (more : List (List ℕ)) → IsClearPart v
    → Where (Good A) (keyed_word k v more)
keyed_good A k v [] h = assigned_good A k v h
keyed_good A k v (b ∷ []) h = one_good A k v b
keyed_good A k v (b ∷ c ∷ []) h = two_good A k v b c
keyed_good A k v (b ∷ c ∷ d ∷ more) h = tt

from_good : (A : Type 0) (t : List ℕ) (o : Option (List ℕ × List ℕ)) (more : List (List ℕ))
    → Where IsClearPair o → Where (Good A) (form_from t o more)
from_good A t None more h = bare_good A t more
from_good A t (Some e) more h = keyed_good A e.0 e.1 more h.0.1

form_good : (A : Type 0) (t : List ℕ) (more : List (List ℕ)) → IsClearPart t
    → Where (Good A) (form_of t more)
form_good A t more h = from_good A t (key_and_value t) more (key_clear t h)

lossy_good : (A : Type 0) (p : List ℕ) (more : List (List ℕ)) → IsClearPart p
    → Where (Good A) (form_of (utf8_lossy p) more)
lossy_good A p more h = let P : List ℕ → Type 0 = λ t. Where (Good A) (form_of t more) in
    subst P (sym (part_lossy p h)) (form_good A p more h)

file_good : (A : Type 0) (args : List (List ℕ))
    → Where (Good A) (option_map iterm.File (file_of args))
file_good A args =
    where_map (λ (d : ITermFileData A). IsWritableFile {A = A} d) (Good A) iterm.File (λ d q.
    q) (file_of args)
    (where_from (λ (d : ITermFileData A). IsWritableFile {A = A} d) (file_of args) (λ d e.
    file_is_writable args d e))

iterm_good : (A : Type 0) (args : List (List ℕ)) → AreClearParts args
    → Where (Good A) (iterm_of args)
iterm_good A [] h = tt
iterm_good A (p ∷ more) h =
    where_if (Good A) (starts_with nat_eq p (codes "File="))
    (option_map iterm.File (file_of (p ∷ more))) (form_of (utf8_lossy p) more)
    (file_good A (p ∷ more)) (lossy_good A p more h.0)

pub clear_is_writable : {A : Type 0} (args : List (List ℕ)) → AreClearParts args
    → (c : ITermProprietary A) → iterm_of args ≡ Some c → IsWritableITerm c
clear_is_writable {A = A} args h c e = let P : Option (ITermProprietary A) → Type 0 =
    λ o. Where (Good A) o in subst P e (iterm_good A args h)
