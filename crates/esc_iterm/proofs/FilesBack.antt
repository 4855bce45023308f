-- The text of a file is that of clear parts, which are read as the file.
use Rattle.std.proofs.Common.{ℕ, ◌≡◌, ◌<◌, ◌^◌, true, false, List, [], ◌∷◌, ◌++◌, map, codes, Option, Some, None, refl, sym, ap, ◌∙◌}
use Rattle.std.specs.Fmt.{signed_decimal}
use Rattle.std.specs.List.{list_all}
use Rattle.std.specs.Option.{unwrap_or}
use Rattle.std.specs.Str.{IsUtf8}
use Rattle.std.proofs.lemmas.List.{append_assoc}
use Rattle.esc_values.specs.Base64.{base64_text_of, base64_text}
use Rattle.esc_values.specs.Clear.{semicolon_list, separated_parts}
use Rattle.esc_values.specs.Cuts.{Pairs, pair_text}
use Rattle.esc_values.specs.Fields.{values_of, present_pairs, entries, FitAll}
use Rattle.esc_values.specs.Scalars.{and_then, number_of}
use Rattle.esc_values.proofs.Clear.NumbersAreClear.{number_back, decimal_passes, signed_passes}
use Rattle.esc_values.proofs.Clear.PlainPartsAreClear.{is_part_plain, all_append}
use Rattle.esc_values.proofs.Codecs.Base64ReadsBack.{base64_passes, base64_back, base64_bytes_back}
use Rattle.esc_values.proofs.Codecs.FieldsReadBack.{AreLawful, entries_pass, reads_back, texts_at, written_values}
use Rattle.esc_values.proofs.Codecs.TextBytesAreBytes.{utf8_are_bytes, from_index}
use Rattle.esc_values.proofs.Numbers.FactsIfSome.{Where, where_then, number_where, Anything, anything, content_where}
use Rattle.esc_iterm.specs.Dimensions.{dimension_of, IsDimension}
use Rattle.esc_iterm.specs.Files.{Kind, Size, Name, Dimension, Flag, Of, read_as, text_as, Fits, file_kinds, file_fields, filled_file, file_in, file_with, file_text}
use Rattle.esc_iterm.specs.Files.{IsWritableFile, FileBack}
use Rattle.esc_iterm.specs.declared.dimension.ITermDimension.{ITermDimension}
use Rattle.esc_iterm.specs.declared.dimension.ITermDimension.TheVariants.{Automatic, Cells, Pixels, Percent}
use Rattle.esc_iterm.specs.declared.file_data.ITermFileData.{ITermFileData}
use Rattle.esc_iterm.proofs.DimensionsBack.{dimension_back, dimension_where}
use Rattle.esc_iterm.proofs.KeyTexts.{is_key_plain, is_name, is_value, key_plain_part}
use Rattle.esc_iterm.proofs.Slices.{AreSlices, slice_plain, ended, pairs_back, file_of_ended, joined_ended, ended_some, ended_clear, slices_plain}
use Rattle.esc_iterm.proofs.Slices.{written_slices}

-- a value that fits reads back
kind_back : (k : Kind) (x : Of k) → Fits k x → read_as k (text_as k x) ≡ Some x
kind_back Size None h = refl
kind_back Size (Some n) h = ap Some (number_back 64 n h h)
kind_back Name None h = refl
kind_back Name (Some t) h = ap Some (base64_back t h)
kind_back Dimension Automatic h = refl
kind_back Dimension d h = ap (λ o. Some (unwrap_or o Automatic)) (dimension_back d h)
kind_back (Flag true) true h = refl
kind_back (Flag true) false h = refl
kind_back (Flag false) true h = refl
kind_back (Flag false) false h = refl

-- a value that was read fits
automatic_where : (o : Option ITermDimension) → Where (λ d. IsDimension d) o
    → IsDimension (unwrap_or o Automatic)
automatic_where None h = tt
automatic_where (Some d) h = h

kind_fits : (k : Kind) (v : Option (List ℕ)) → Where (λ x. Fits k x) (read_as k v)
kind_fits Size v = where_then (λ (t : List ℕ). Anything t) (λ n. n < 2 ^ 64) (number_of 64) (λ t h.
    number_where 64 t) v (anything v)
kind_fits Name v = where_then (λ (t : List ℕ). Anything t) (λ t. IsUtf8 t) base64_text_of (λ t h.
    content_where t) v (anything v)
kind_fits Dimension v = automatic_where (and_then v dimension_of)
    (where_then (λ (t : List ℕ). Anything t) (λ d. IsDimension d) dimension_of (λ t h.
    dimension_where t) v (anything v))
kind_fits (Flag without) v = tt

-- the text of a value that fits has plain characters
kind_passes : (k : Kind) (x : Of k) → Fits k x → is_value (text_as k x) ≡ true
kind_passes Size None h = refl
kind_passes Size (Some n) h = decimal_passes is_key_plain refl n h
kind_passes Name None h = refl
kind_passes Name (Some t) h = base64_passes is_key_plain refl refl t (utf8_are_bytes t h)
kind_passes Dimension Automatic h = refl
kind_passes Dimension (Cells n) h = signed_passes is_key_plain refl refl n h
kind_passes Dimension (Pixels n) h = all_append is_key_plain (signed_decimal n) (codes "px")
    (signed_passes is_key_plain refl refl n h) refl
kind_passes Dimension (Percent n) h = all_append is_key_plain (signed_decimal n) (codes "%")
    (signed_passes is_key_plain refl refl n h) refl
kind_passes (Flag true) true h = refl
kind_passes (Flag true) false h = refl
kind_passes (Flag false) true h = refl
kind_passes (Flag false) false h = refl

pub file_laws : AreLawful file_kinds is_value
file_laws = record { back = kind_back; fits = kind_fits; passes = kind_passes }

-- the file of the keys that are written
fields_back : {A : Type 0} (f : ITermFileData A) → FitAll file_fields f
    → file_in {A = A} (values_of (present_pairs (entries file_fields f))) f.content ≡ Some f
fields_back {A = A} f h =
    reads_back file_laws (file_fields {A = A}) (filled_file f.content) f
    (values_of (present_pairs (entries file_fields f))) h
    (ap (texts_at (file_fields {A = A})) (written_values (entries file_fields f)))

-- the file of the slices
abbrev made : {A : Type 0} → Option (Pairs × List ℕ) → Option (ITermFileData A)
made o = and_then o (λ (m : Pairs × List ℕ). file_with (values_of m.0) m.1)

back_of : {A : Type 0} (f : ITermFileData A) (es : Pairs) (b : List ℕ) → AreSlices es
    → list_all is_part_plain (0x3a ∷ b) ≡ true
    → file_with {A = A} (values_of es) b ≡ Some f
    → file_text f ≡ codes "File=" ++ (semicolon_list (map pair_text es) ++ 0x3a ∷ b) → FileBack f
back_of {A = A} f [] b h plain is text = (
  ended (codes "File=" ++ []) [] (0x3a ∷ b),
  text ∙ sym (joined_ended (codes "File=" ++ []) [] (0x3a ∷ b)),
  ended_some (codes "File=" ++ []) [] (0x3a ∷ b),
  ended_clear (codes "File=" ++ []) [] (0x3a ∷ b) refl tt plain,
  file_of_ended {A = A} [] [] (0x3a ∷ b) ∙ is,
)
back_of {A = A} f (e ∷ es) b h plain is text = (
  ended (codes "File=" ++ pair_text e) (map pair_text es) (0x3a ∷ b),
  text ∙ ap (λ u. codes "File=" ++ u) (append_assoc (pair_text e) (separated_parts (map pair_text es))
      (0x3a ∷ b))
      ∙ sym (joined_ended (codes "File=" ++ pair_text e) (map pair_text es) (0x3a ∷ b)),
  ended_some (codes "File=" ++ pair_text e) (map pair_text es) (0x3a ∷ b),
  ended_clear (codes "File=" ++ pair_text e) (map pair_text es) (0x3a ∷ b)
      (key_plain_part (pair_text e) (slice_plain e h.0)) (slices_plain es h.1) plain,
  file_of_ended {A = A} (pair_text e) (map pair_text es) (0x3a ∷ b)
      ∙ ap (made {A = A}) (pairs_back e es b h.0 h.1) ∙ is,
)

pub file_back : {A : Type 0} (f : ITermFileData A) → IsWritableFile f → FileBack f
file_back {A = A} f h =
    let es = entries file_fields f in
    back_of f (present_pairs es) (base64_text f.content)
    (written_slices es (entries_pass file_laws (λ k. list_all is_name k) file_fields f refl h.0))
    (base64_passes is_part_plain refl refl f.content (from_index f.content h.1))
    (ap (λ o. and_then o (file_in {A = A} (values_of (present_pairs es))))
    (base64_bytes_back f.content h.1)
    ∙ fields_back f h.0)
    refl
