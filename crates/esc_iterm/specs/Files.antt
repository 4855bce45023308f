-- Files: how they are read and written.
use Rattle.std.specs.Prelude.{ℕ, ◌≡◌, ◌≢◌, ◌<◌, ◌^◌, nat_eq, Bool, true, false, not, if◌then◌else◌, List, [], ◌∷◌, ◌++◌, map, drop, codes, Option, Some}
use Rattle.std.specs.Prelude.{None, is_some, IfSome}
use Rattle.std.specs.Cmp.Lexicographic.{pointwise}
use Rattle.std.specs.Fmt.{decimal}
use Rattle.std.specs.List.{starts_with}
use Rattle.std.specs.Option.{option_map, unwrap_or}
use Rattle.std.specs.Str.{IsUtf8}
use Rattle.base64.specs.GeneralPurpose.{IsBytes}
use Rattle.esc_values.specs.Base64.{base64_of, base64_text_of, base64_text}
use Rattle.esc_values.specs.Clear.{semicolon_list, separated_parts, AreClearParts}
use Rattle.esc_values.specs.Cuts.{Pairs, cut_at, pair_text, pairs_in, without_empty}
use Rattle.esc_values.specs.Fields.{Values, values_of, Entry, present_pairs, Kinds, Field, entries, FitAll, read_with}
use Rattle.esc_values.specs.Scalars.{and_then, some_if, number_of}
use Rattle.esc_iterm.specs.Dimensions.{dimension_of, dimension_text, IsDimension}
use Rattle.esc_iterm.specs.declared.dimension.ITermDimension.{ITermDimension}
use Rattle.esc_iterm.specs.declared.dimension.ITermDimension.TheVariants.{Automatic, Cells, Pixels, Percent}
use Rattle.esc_iterm.specs.declared.file_data.ITermFileData.{ITermFileData}

-- the pair of a slice before the last: none in an empty slice; any other slice without `=` does not
-- fit
abbrev pub slice_pairs : List ℕ → Option Pairs
slice_pairs p = pairs_in (without_empty (p ∷ []))

-- the pair of the last slice: none where it has no `=`
abbrev pub last_pairs : List ℕ → Option Pairs
last_pairs p = if is_some (cut_at 0x3d p) then pairs_in (p ∷ []) else Some []

-- These are the pairs of the slices, and the bytes after the first `:` of the last slice. There are
-- none if there is no slice, the last one has no `:`, or one does not fit.
abbrev pub pairs_of : List (List ℕ) → Option (Pairs × List ℕ)
pairs_of [] = None
pairs_of (p ∷ []) =
    and_then (cut_at 0x3a p) (λ (c : List ℕ
    × List ℕ). option_map (λ es. (es, c.1)) (last_pairs c.0))
pairs_of (p ∷ q ∷ ps) = and_then (slice_pairs p) (λ es.
    option_map (λ (m : Pairs × List ℕ). (es ++ m.0, m.1)) (pairs_of (q ∷ ps)))

-- the dimension of a value; automatic where there is none that can be read
abbrev pub size_in : Option (List ℕ) → ITermDimension
size_in v = unwrap_or (and_then v dimension_of) Automatic

-- says whether a value is not `0`; `without` says it if there is none
abbrev pub is_set : Bool → Option (List ℕ) → Bool
is_set without None = without
is_set without (Some v) = not (pointwise nat_eq v (codes "0"))

abbrev pub written_dimension : ITermDimension → Option (List ℕ)
written_dimension Automatic = None
written_dimension (Cells n) = Some (dimension_text (Cells n))
written_dimension (Pixels n) = Some (dimension_text (Pixels n))
written_dimension (Percent n) = Some (dimension_text (Percent n))

-- the text of a flag that differs from the one that is read without the key
abbrev pub flag_value : Bool → Bool → Option (List ℕ)
flag_value true x = some_if (not x) (codes "0")
flag_value false x = some_if x (codes "1")

-- a kind of value; `Flag` has the value that is read without the key
pub data Kind : Type 0 where
  Size Name Dimension : Kind
  Flag : Bool → Kind

abbrev pub Of : Kind → Type 0
Of Size = Option ℕ
Of Name = Option (List ℕ)
Of Dimension = ITermDimension
Of (Flag without) = Bool

-- a value that cannot be read counts as absent
abbrev pub read_as : (k : Kind) → Option (List ℕ) → Option (Of k)
read_as Size v = Some (and_then v (number_of 64))
read_as Name v = Some (and_then v base64_text_of)
read_as Dimension v = Some (size_in v)
read_as (Flag without) v = Some (is_set without v)

abbrev pub text_as : (k : Kind) → Of k → Option (List ℕ)
text_as Size n = option_map decimal n
text_as Name t = option_map base64_text t
text_as Dimension d = written_dimension d
text_as (Flag without) x = flag_value without x

abbrev pub Fits : (k : Kind) → Of k → Type 0
Fits Size n = IfSome n (λ n. n < 2 ^ 64)
Fits Name t = IfSome t (λ t. IsUtf8 t)
Fits Dimension d = IsDimension d
Fits (Flag without) x = Unit {0}

abbrev pub file_kinds : Kinds
file_kinds = record { Kind = Kind; Of = Of; read_as = read_as; text_as = text_as; Fits = Fits }

-- the keys of a file, in the order in which they are written
abbrev pub file_fields : {A : Type 0} → List (Field file_kinds (ITermFileData A))
file_fields =
    record { key = codes "size"; kind = Size; get = λ f. f.size }
    ∷ record { key = codes "name"; kind = Name; get = λ f. f.name }
    ∷ record { key = codes "width"; kind = Dimension; get = λ f. f.width }
    ∷ record { key = codes "height"; kind = Dimension; get = λ f. f.height }
    ∷ record {
      key = codes "preserveAspectRatio";
      kind = Flag true;
      get = λ f. f.preserve_aspect_ratio;
    }
    ∷ record { key = codes "inline"; kind = Flag false; get = λ f. f.inline }
    ∷ record {
      key = codes "doNotMoveCursor";
      kind = Flag false;
      get = λ f. f.do_not_move_cursor;
    }
    ∷ []

-- the file of this content and the values of its keys
abbrev pub filled_file : {A : Type 0} → List ℕ → Option ℕ → Option (List ℕ) → ITermDimension
    → ITermDimension → Bool → Bool → Bool → ITermFileData A
filled_file bytes size name width height ratio inline cursor = record {
  name = name;
  size = size;
  width = width;
  height = height;
  preserve_aspect_ratio = ratio;
  inline = inline;
  do_not_move_cursor = cursor;
  content = bytes;
}

-- the file of this content that says nothing else of it
abbrev pub plain_file : {A : Type 0} → List ℕ → ITermFileData A
plain_file bytes = record {
  name = None;
  size = None;
  width = Automatic;
  height = Automatic;
  preserve_aspect_ratio = true;
  inline = false;
  do_not_move_cursor = false;
  content = bytes;
}

-- the file of these values and this content
abbrev pub file_in : {A : Type 0} → Values → List ℕ → Option (ITermFileData A)
file_in {A = A} v bytes = read_with (file_fields {A = A}) (filled_file bytes) v

-- the file of these values and a content in base64; none where that is no base64
abbrev pub file_with : {A : Type 0} → Values → List ℕ → Option (ITermFileData A)
file_with v t = and_then (base64_of t) (file_in v)

-- the file of the slices
abbrev pub file_from : {A : Type 0} → List (List ℕ) → Option (ITermFileData A)
file_from ps = and_then (pairs_of ps) (λ (m : Pairs × List ℕ). file_with (values_of m.0) m.1)

-- This is the file of the parts after the code `1337`. The first begins with `File=`; the bytes
-- after that, and each further part, are slices.
abbrev pub file_of : {A : Type 0} → List (List ℕ) → Option (ITermFileData A)
file_of [] = None
file_of (p ∷ ps) = if starts_with nat_eq p (codes "File=") then file_from (drop 5 p ∷ ps) else None

-- the slices of the keys that are written
abbrev pub key_slices : List Entry → List (List ℕ)
key_slices es = map pair_text (present_pairs es)

-- slices with `;` between them, and before the first of them where it is not the first at all
abbrev pub parts_after : Bool → List (List ℕ) → List ℕ
parts_after true ps = semicolon_list ps
parts_after false ps = separated_parts ps

-- the text of a file, after `1337;`
abbrev pub file_text : {A : Type 0} → ITermFileData A → List ℕ
file_text f =
    codes "File=" ++ (semicolon_list (key_slices (entries file_fields f)) ++ 0x3a ∷ base64_text f.content)

-- A file as a program can hold it: its name is a text, its size and the numbers of its dimensions
-- have 64 bits, its content is bytes.
abbrev pub IsWritableFile : {A : Type 0} → ITermFileData A → Type 0
IsWritableFile f = FitAll file_fields f × IsBytes f.content

-- its text is that of clear parts, at least one, which are read as the file
abbrev pub FileBack : {A : Type 0} → ITermFileData A → Type 0
FileBack f = (args : List (List ℕ)) × (file_text f ≡ semicolon_list args) × (args ≢ [])
    × AreClearParts args
    × (file_of args ≡ Some f)
