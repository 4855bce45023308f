-- Parameters one after another: the renditions of a control sequence SGR, and the numbers of modes.
use Rattle.std.specs.Prelude.{ℕ, zero, suc, pos, ◌+◌, ◌-◌, ◌==◌, if◌then◌else◌, List, [], ◌∷◌, ◌++◌, length, map, take, Option, Some, None}
use Rattle.std.specs.Option.{option_map}
use Rattle.esc_values.specs.declared.csi_param.CsiParam.{CsiParam}
use Rattle.esc_values.specs.declared.csi_param.CsiParam.TheVariants.{Integer, P}
use Rattle.esc_sequences.specs.Csis.{is_separator}
use Rattle.typed_functions.specs.declared.mode_number.ModeNumber.{ModeNumber}
use Rattle.typed_functions.specs.declared.modes.Modes.{Modes}
use Rattle.typed_functions.specs.declared.rendition.Rendition.{Rendition}
use Rattle.typed_functions.specs.declared.renditions.Renditions.{Renditions}
use Rattle.typed_functions.specs.declared.selection.Selection.{Selection}
use Rattle.typed_functions.specs.Renditions.{byte_of, is_byte, is_target, normal_params, rendition_of}

-- the number of entries before the `;` after n others, or in all if there is none
abbrev pub len_before : ℕ → List CsiParam → ℕ
len_before n [] = 0
len_before zero (e ∷ es) = if is_separator e then 0 else suc (len_before zero es)
len_before (suc n) (e ∷ es) =
    suc (if is_separator e then len_before n es else len_before (suc n) es)

-- how many `;` there are
abbrev pub separator_count : List CsiParam → ℕ
separator_count [] = 0
separator_count (e ∷ es) = if is_separator e then suc (separator_count es) else separator_count es

-- the entries before the last `;`, if there is one: those of items that are whole, if more entries
-- came after these
abbrev pub whole_entries : List CsiParam → Option (List CsiParam)
whole_entries es = if separator_count es == 0 then None
    else Some (take (len_before (separator_count es - 1) es) es)

-- the number of `;` that a colour has after its target: two before an entry of the palette, four
-- before three intensities, and all if its kind is another, since nobody can say where that ends
abbrev pub kind_separators : Option ℕ → ℕ → ℕ
kind_separators None all = all
kind_separators (Some k) all = if k == 5 then 2 else if k == 2 then 4 else all

abbrev pub color_separators : List CsiParam → ℕ
color_separators [] = 1
color_separators (k ∷ es) = kind_separators (byte_of k) (length es + 2)

-- after a number, the entries after it have these
abbrev pub more_separators : List CsiParam → ℕ
more_separators [] = 0
more_separators (m ∷ es) = if is_byte 0x3b m then color_separators es else 0

abbrev pub number_separators : Option ℕ → List CsiParam → ℕ
number_separators None es = 0
number_separators (Some n) es = if is_target n then more_separators es else 0

-- how many `;` the entries of the first rendition have
abbrev pub separators : List CsiParam → ℕ
separators [] = 0
separators (e ∷ es) = number_separators (byte_of e) es

-- the number of entries before the `;` that ends the first part, if this says how many others the
-- part has
abbrev pub len_with : (List CsiParam → ℕ) → List CsiParam → ℕ
len_with s es = len_before (s es) es

-- how many entries the first rendition has
abbrev pub first_len : List CsiParam → ℕ
first_len es = len_with separators es

-- The entries of each part after the first n entries. No entry is one part, and so is nothing after
-- a `;`.
abbrev pub cut_after : (List CsiParam → ℕ) → ℕ → List CsiParam → List (List CsiParam)
cut_after s zero [] = [] ∷ []
cut_after s (suc n) [] = []
cut_after s zero (e ∷ es) =
    take (len_with s (e ∷ es)) (e ∷ es) ∷ cut_after s (len_with s (e ∷ es)) es
cut_after s (suc n) (e ∷ es) = cut_after s n es

abbrev pub cut_with : (List CsiParam → ℕ) → List CsiParam → List (List CsiParam)
cut_with s es = cut_after s 0 es

-- the entries of each rendition
abbrev pub cut_entries : List CsiParam → List (List CsiParam)
cut_entries es = cut_with separators es

-- the entries of each parameter: those between two `;`
abbrev pub no_separators : List CsiParam → ℕ
no_separators es = 0

abbrev pub parameters : List CsiParam → List (List CsiParam)
parameters es = cut_with no_separators es

-- a rendition, if it is known, and its entries
abbrev pub selection_of : List CsiParam → Option Rendition × List CsiParam
selection_of es = (rendition_of es, es)

-- the renditions of these entries, in order
abbrev pub selections : List CsiParam → List (Option Rendition × List CsiParam)
selections es = map selection_of (cut_entries es)

-- the items that an iterator has left
abbrev pub left_with : {X : Type 0} → (List CsiParam → ℕ) → (List CsiParam → X)
    → Option (List CsiParam) → List X
left_with s f None = []
left_with s f (Some es) = map f (cut_with s es)

abbrev pub renditions_left : Renditions → List (Option Rendition × List CsiParam)
renditions_left s = left_with separators selection_of (option_map (λ es. es.now) s.rest)

-- the number of a mode, if a parameter is one, and its entries
abbrev pub mode_number : List CsiParam → Option ℕ
mode_number [] = None
mode_number (Integer (pos n) ∷ []) = Some n
mode_number _ = None

abbrev pub mode_of : List CsiParam → Option ℕ × List CsiParam
mode_of es = (mode_number es, es)

-- the modes of these parameters, in order
abbrev pub mode_numbers : List CsiParam → List (Option ℕ × List CsiParam)
mode_numbers es = map mode_of (parameters es)

abbrev pub modes_left : Modes → List (Option ℕ × List CsiParam)
modes_left s = left_with no_separators mode_of (option_map (λ es. es.now) s.rest)

abbrev pub mode_seen : ModeNumber → Option ℕ × List CsiParam
mode_seen x = (x.number, x.entries.now)

-- the parts of an item that a caller sees
abbrev pub seen_item : Selection → Option Rendition × List CsiParam
seen_item x = (x.rendition, x.entries.now)

-- entries with `;` between them
abbrev pub joined_after : List (List CsiParam) → List CsiParam
joined_after [] = []
joined_after (x ∷ xs) = P 0x3b ∷ (x ++ joined_after xs)

abbrev pub joined_entries : List (List CsiParam) → List CsiParam
joined_entries [] = []
joined_entries (x ∷ xs) = x ++ joined_after xs

-- a rendition, and its normal spelling
abbrev pub spelled_rendition : Rendition → Option Rendition × List CsiParam
spelled_rendition r = (Some r, normal_params r)
