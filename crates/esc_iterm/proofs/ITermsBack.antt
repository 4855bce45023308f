-- Every writable command reads back.
use Rattle.std.proofs.Common.{ℕ, ◌≡◌, ◌<◌, ◌^◌, Bool, true, false, nat_eq, if◌then◌else◌, inl, inr, List, [], ◌∷◌, ◌++◌, codes, Some, None, refl, sym}
use Rattle.std.proofs.Common.{ap, ◌∙◌, subst}
use Rattle.std.specs.List.{starts_with}
use Rattle.std.specs.Option.{option_map}
use Rattle.std.specs.Str.{IsUtf8}
use Rattle.std.specs.Str.Lossy.{utf8_lossy}
use Rattle.std.proofs.lemmas.List.{append-nil}
use Rattle.std.proofs.lemmas.Bool.{cases_Bool}
use Rattle.esc_values.specs.Base64.{base64_text, base64_text_of}
use Rattle.esc_values.specs.Clear.{IsClearPart, semicolon_list}
use Rattle.esc_values.specs.Scalars.{and_then}
use Rattle.esc_values.proofs.Clear.ClearPairs.{key_back, key_none}
use Rattle.esc_values.proofs.Clear.ClearTexts.{part_append, part_lossy}
use Rattle.esc_values.proofs.Clear.CutAtCharacter.{Free}
use Rattle.esc_values.proofs.Clear.PlainPartsAreClear.{plain_part}
use Rattle.esc_values.proofs.Codecs.Base64ReadsBack.{base64_part, base64_back}
use Rattle.esc_iterm.specs.Files.{file_of, FileBack}
use Rattle.esc_iterm.specs.ITerms.{lone_keyword, bare_keyword, keyed_word, form_from, form_of, iterm_of, form_text}
use Rattle.esc_iterm.specs.Tenths.{tenths_text}
use Rattle.esc_iterm.specs.Versions.{version_text}
use Rattle.esc_iterm.specs.WritableITerms.{IsWritableITerm, WritesBack}
use Rattle.esc_iterm.specs.declared.file_data.ITermFileData.{ITermFileData}
use Rattle.esc_iterm.specs.declared.proprietary.ITermProprietary.{ITermProprietary}
use Rattle.esc_iterm.specs.declared.proprietary.ITermProprietary.TheVariants as iterm
use Rattle.esc_iterm.proofs.FilesBack.{file_back}
use Rattle.esc_iterm.proofs.TenthsBack.{tenths_back, tenths_part}
use Rattle.esc_iterm.proofs.VersionsBack.{version_back, version_part}

-- a clear keyword without `=` that is not `File`
record Keyword (k : List ℕ) : Type 0 where
  pub clear : IsClearPart k
  pub lacks : Free 0x3d k
  pub other : (r : List ℕ) → starts_with nat_eq (k ++ r) (codes "File=") ≡ false

-- a keyword and its argument
first_part : (k v : List ℕ) → Keyword k → IsClearPart v → IsClearPart (k ++ 0x3d ∷ v)
first_part k v w h =
    part_append k (0x3d ∷ v) w.clear (part_append (0x3d ∷ []) v (plain_part (0x3d ∷ []) refl) h)

otherwise : {X : Type 0} (b : Bool) (x y : X) → b ≡ false → (if b then x else y) ≡ y
otherwise true x y h = absurd cc
otherwise false x y h = refl

taken : {X : Type 0} (b : Bool) (x y : X) → b ≡ true → (if b then x else y) ≡ x
taken true x y h = refl
taken false x y h = absurd cc

-- the forms that are no file
form_means : (A : Type 0) (p : List ℕ) (more : List (List ℕ)) → IsClearPart p
    → starts_with nat_eq p (codes "File=") ≡ false
    → iterm_of {A = A} (p ∷ more) ≡ form_of p more
form_means A p more h other =
    otherwise (starts_with nat_eq p (codes "File=")) (option_map iterm.File (file_of (p ∷ more)))
    (form_of (utf8_lossy p) more) other
    ∙ ap (λ t. form_of {A = A} t more) (part_lossy p h)

keyed_means : (A : Type 0) (k v : List ℕ) (more : List (List ℕ)) → Keyword k → IsClearPart v
    → iterm_of {A = A} ((k ++ 0x3d ∷ v) ∷ more) ≡ keyed_word k v more
keyed_means A k v more w h =
    form_means A (k ++ 0x3d ∷ v) more (first_part k v w h) (w.other (0x3d ∷ v))
    ∙ ap (λ o. form_from {A = A} (k ++ 0x3d ∷ v) o more) (key_back k v w.clear w.lacks h)

bare_means : (A : Type 0) (k : List ℕ) (more : List (List ℕ)) → Keyword k
    → iterm_of {A = A} (k ∷ more) ≡ bare_keyword k more
bare_means A k more w =
    let P : List ℕ → Type 0 = λ t. starts_with nat_eq t (codes "File=") ≡ false in
    form_means A k more w.clear (subst P (append-nil k) (w.other []))
    ∙ ap (λ o. form_from {A = A} k o more) (key_none k w.lacks)

-- one part after the code
one_text : (t : List ℕ) → codes "1337;" ++ t ≡ semicolon_list (codes "1337" ∷ t ∷ [])
one_text t = ap (λ x. codes "1337;" ++ x) (sym (append-nil t))

alone_back : (A : Type 0) (c : ITermProprietary A) (k : List ℕ) → Keyword k → form_text c ≡ k
    → lone_keyword k ≡ Some c → WritesBack c
alone_back A c k w e reads = (
  k ∷ [],
  ap (λ t. codes "1337;" ++ t) e ∙ one_text k,
  (w.clear, tt),
  bare_means A k [] w ∙ reads,
)

one_back : (A : Type 0) (c : ITermProprietary A) (k v : List ℕ) → Keyword k → IsClearPart v
    → form_text c ≡ k ++ 0x3d ∷ v → keyed_word k v [] ≡ Some c → WritesBack c
one_back A c k v w h e reads = (
  (k ++ 0x3d ∷ v) ∷ [],
  ap (λ t. codes "1337;" ++ t) e ∙ one_text (k ++ 0x3d ∷ v),
  (first_part k v w h, tt),
  keyed_means A k v [] w h ∙ reads,
)

-- the size of a cell
cell_word : Keyword (codes "ReportCellSize")
cell_word = record {
  clear = plain_part (codes "ReportCellSize") refl;
  lacks = refl;
  other = λ r. refl;
}

cell_text : (x y : List ℕ)
    → codes "1337;" ++ (codes "ReportCellSize=" ++ (x ++ 0x3b ∷ (y ++ codes "")))
    ≡ semicolon_list (codes "1337" ∷ (codes "ReportCellSize" ++ 0x3d ∷ x) ∷ y ∷ [])
cell_text x y = refl

scaled_text : (x y z : List ℕ)
    → codes "1337;" ++ (codes "ReportCellSize=" ++ (x ++ 0x3b ∷ (y ++ 0x3b ∷ z)))
    ≡ semicolon_list (codes "1337" ∷ (codes "ReportCellSize" ++ 0x3d ∷ x) ∷ y ∷ z ∷ [])
scaled_text x y z =
    ap (λ t. codes "1337;ReportCellSize=" ++ (x ++ 0x3b ∷ (y ++ 0x3b ∷ t))) (sym (append-nil z))

cell_back : (A : Type 0) (h w : ℕ) → h < 2 ^ 32 → w < 2 ^ 32
    → WritesBack {A = A} (iterm.ReportCellSize h w None)
cell_back A h w high wide = (
  (codes "ReportCellSize" ++ 0x3d ∷ tenths_text h) ∷ tenths_text w ∷ [],
  cell_text (tenths_text h) (tenths_text w),
  (
    first_part (codes "ReportCellSize") (tenths_text h) cell_word (tenths_part h high),
    (tenths_part w wide, tt),
  ),
  keyed_means A (codes "ReportCellSize") (tenths_text h) (tenths_text w ∷ []) cell_word
      (tenths_part h high)
      ∙ rw (tenths_back h high, tenths_back w wide) refl,
)

scaled_back : (A : Type 0) (h w s : ℕ) → h < 2 ^ 32 → w < 2 ^ 32 → s < 2 ^ 32
    → WritesBack {A = A} (iterm.ReportCellSize h w (Some s))
scaled_back A h w s high wide scaled = (
  (codes "ReportCellSize" ++ 0x3d ∷ tenths_text h) ∷ tenths_text w ∷ tenths_text s ∷ [],
  scaled_text (tenths_text h) (tenths_text w) (tenths_text s),
  (
    first_part (codes "ReportCellSize") (tenths_text h) cell_word (tenths_part h high),
    (tenths_part w wide, (tenths_part s scaled, tt)),
  ),
  keyed_means A (codes "ReportCellSize") (tenths_text h) (tenths_text w ∷ tenths_text s ∷ [])
      cell_word (tenths_part h high)
      ∙ rw (tenths_back s scaled, tenths_back h high, tenths_back w wide) refl,
)

-- texts in base64
copy_word : Keyword (codes "Copy")
copy_word = record {
  clear = plain_part (codes "Copy") refl;
  lacks = refl;
  other = λ r. refl;
}

copy_back : (A : Type 0) (t : List ℕ) → IsUtf8 t → WritesBack {A = A} (iterm.Copy t)
copy_back A t u = (
  (codes "Copy" ++ 0x3d ∷ []) ∷ base64_text t ∷ [],
  ap (λ x. codes "1337;Copy=;" ++ x) (sym (append-nil (base64_text t))),
  (first_part (codes "Copy") [] copy_word (plain_part [] refl), (base64_part t u, tt)),
  keyed_means A (codes "Copy") [] (base64_text t ∷ []) copy_word (plain_part [] refl)
      ∙ ap (option_map iterm.Copy) (base64_back t u),
)

variable_part : (n t : List ℕ) → IsClearPart n → IsUtf8 t → IsClearPart (n ++ 0x3d ∷ base64_text t)
variable_part n t h u =
    part_append n (0x3d ∷ base64_text t) h
    (part_append (0x3d ∷ []) (base64_text t) (plain_part (0x3d ∷ []) refl) (base64_part t u))

variable_back : (A : Type 0) (n t : List ℕ) → IsClearPart n → Free 0x3d n → IsUtf8 t
    → WritesBack {A = A} (iterm.SetUserVar n t)
variable_back A n t h lacks u =
    one_back A (iterm.SetUserVar n t) (codes "SetUserVar") (n ++ 0x3d ∷ base64_text t)
    (record { clear = plain_part (codes "SetUserVar") refl; lacks = refl; other = λ r. refl })
    (variable_part n t h u) refl
    (ap (λ o. and_then o (λ (e : List ℕ × List ℕ). option_map {U = ITermProprietary A} (λ x.
    iterm.SetUserVar e.0 x) (base64_text_of e.1)))
    (key_back n (base64_text t) h lacks (base64_part t u))
    ∙ ap (option_map (λ x. iterm.SetUserVar n x)) (base64_back t u))

-- files
file_starts : (A : Type 0) (p : List ℕ) (ps : List (List ℕ)) (d : ITermFileData A)
    → file_of {A = A} (p ∷ ps) ≡ Some d
    → starts_with nat_eq p (codes "File=") ≡ true
file_starts A p ps d e =
    elim (cases_Bool (starts_with nat_eq p (codes "File="))) [
      | inl held ↦ held
      | inr failed ↦ let none = rw failed at e in absurd cc
    ]

file_writes : (A : Type 0) (d : ITermFileData A) → FileBack d → WritesBack {A = A} (iterm.File d)
file_writes A d ([], e, some, clear, reads) = absurd (some refl)
file_writes A d (p ∷ ps, e, some, clear, reads) = (
  p ∷ ps,
  ap (λ t. codes "1337;" ++ t) e,
  clear,
  taken (starts_with nat_eq p (codes "File=")) (option_map iterm.File (file_of (p ∷ ps)))
      (form_of (utf8_lossy p) ps) (file_starts A p ps d reads)
      ∙ ap (option_map iterm.File) reads,
)

pub writes_back : {A : Type 0} (c : ITermProprietary A) → IsWritableITerm c → WritesBack c
writes_back {A = A} iterm.SetMark h =
    alone_back A iterm.SetMark (codes "SetMark")
    (record { clear = plain_part (codes "SetMark") refl; lacks = refl; other = λ r. refl }) refl
    refl
writes_back {A = A} iterm.StealFocus h =
    alone_back A iterm.StealFocus (codes "StealFocus")
    (record { clear = plain_part (codes "StealFocus") refl; lacks = refl; other = λ r. refl })
    refl refl
writes_back {A = A} iterm.ClearScrollback h =
    alone_back A iterm.ClearScrollback (codes "ClearScrollback")
    (record { clear = plain_part (codes "ClearScrollback") refl; lacks = refl; other = λ r. refl })
    refl refl
writes_back {A = A} (iterm.CurrentDir t) h =
    one_back A (iterm.CurrentDir t) (codes "CurrentDir") t
    (record { clear = plain_part (codes "CurrentDir") refl; lacks = refl; other = λ r. refl }) h
    refl refl
writes_back {A = A} (iterm.SetProfile t) h =
    one_back A (iterm.SetProfile t) (codes "SetProfile") t
    (record { clear = plain_part (codes "SetProfile") refl; lacks = refl; other = λ r. refl }) h
    refl refl
writes_back {A = A} (iterm.CopyToClipboard t) h =
    one_back A (iterm.CopyToClipboard t) (codes "CopyToClipboard") t
    (record { clear = plain_part (codes "CopyToClipboard") refl; lacks = refl; other = λ r. refl })
    h refl refl
writes_back {A = A} iterm.EndCopy h =
    alone_back A iterm.EndCopy (codes "EndCopy")
    (record { clear = plain_part (codes "EndCopy") refl; lacks = refl; other = λ r. refl }) refl
    refl
writes_back {A = A} (iterm.HighlightCursorLine true) h =
    one_back A (iterm.HighlightCursorLine true) (codes "HighlightCursorLine") (codes "yes")
    (record {
      clear = plain_part (codes "HighlightCursorLine") refl;
      lacks = refl;
      other = λ r.
          refl;
    }) (plain_part (codes "yes") refl) refl refl
writes_back {A = A} (iterm.HighlightCursorLine false) h =
    one_back A (iterm.HighlightCursorLine false) (codes "HighlightCursorLine") (codes "no")
    (record {
      clear = plain_part (codes "HighlightCursorLine") refl;
      lacks = refl;
      other = λ r.
          refl;
    }) (plain_part (codes "no") refl) refl refl
writes_back {A = A} iterm.RequestCellSize h =
    alone_back A iterm.RequestCellSize (codes "ReportCellSize") cell_word refl refl
writes_back {A = A} (iterm.ReportCellSize height width None) h = cell_back A height width h.0 h.1
writes_back {A = A} (iterm.ReportCellSize height width (Some scale)) h =
    scaled_back A height width scale h.0 h.1 h.2
writes_back {A = A} (iterm.Copy t) h = copy_back A t h
writes_back {A = A} (iterm.ReportVariable t) h = absurd h
writes_back {A = A} (iterm.SetUserVar n t) h = variable_back A n t h.0 h.1 h.2
writes_back {A = A} (iterm.SetBadgeFormat t) h =
    one_back A (iterm.SetBadgeFormat t) (codes "SetBadgeFormat") (base64_text t)
    (record { clear = plain_part (codes "SetBadgeFormat") refl; lacks = refl; other = λ r. refl })
    (base64_part t h) refl
    (ap (option_map iterm.SetBadgeFormat) (base64_back t h))
writes_back {A = A} (iterm.File d) h = file_writes A d (file_back d h)
writes_back {A = A} (iterm.UnicodeVersion v) h =
    one_back A (iterm.UnicodeVersion v) (codes "UnicodeVersion") (version_text v)
    (record { clear = plain_part (codes "UnicodeVersion") refl; lacks = refl; other = λ r. refl })
    (version_part A v h) refl
    (ap (option_map iterm.UnicodeVersion) (version_back A v h))
