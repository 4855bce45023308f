-- The sizes at which a file is shown: how they are read and written, and how many pixels they are.
use Rattle.std.specs.Prelude.{ℕ, ℤ, pos, negsuc, nat_eq, ◌<◌, ◌^◌, ◌-◌, ◌*◌, ◌/◌, min, if◌then◌else◌, List, ◌++◌, length, take, drop, codes, Option, Some, None}
use Rattle.std.specs.Cmp.Lexicographic.{pointwise}
use Rattle.std.specs.Fmt.{signed_decimal}
use Rattle.std.specs.Option.{option_map}
use Rattle.esc_values.specs.Scalars.{some_if, signed_of, IsSigned}
use Rattle.esc_iterm.specs.declared.dimension.ITermDimension.{ITermDimension}
use Rattle.esc_iterm.specs.declared.dimension.ITermDimension.TheVariants.{Automatic, Cells, Pixels, Percent}

-- the text before this end of a text; none if the text does not end so
abbrev pub before_end : List ℕ → List ℕ → Option (List ℕ)
before_end e t =
    some_if (pointwise nat_eq (drop (length t - length e) t) e) (take (length t - length e) t)

-- the dimension of the text before `px`, else of the text before `%`, else of the text: a number
-- of 64 bits
abbrev pub measured_dimension : Option (List ℕ) → Option (List ℕ) → List ℕ → Option ITermDimension
measured_dimension (Some n) p t = option_map Pixels (signed_of 64 n)
measured_dimension None (Some n) t = option_map Percent (signed_of 64 n)
measured_dimension None None t = option_map Cells (signed_of 64 t)

-- `auto`, or a number with its unit
abbrev pub dimension_of : List ℕ → Option ITermDimension
dimension_of t = if pointwise nat_eq t (codes "auto") then Some Automatic
    else measured_dimension (before_end (codes "px") t) (before_end (codes "%") t) t

-- the text of a dimension
abbrev pub dimension_text : ITermDimension → List ℕ
dimension_text Automatic = codes "auto"
dimension_text (Cells n) = signed_decimal n
dimension_text (Pixels n) = signed_decimal n ++ codes "px"
dimension_text (Percent n) = signed_decimal n ++ codes "%"

-- its number, if it has one, has 64 bits
abbrev pub IsDimension : ITermDimension → Type 0
IsDimension Automatic = Unit {0}
IsDimension (Cells n) = IsSigned 64 n
IsDimension (Pixels n) = IsSigned 64 n
IsDimension (Percent n) = IsSigned 64 n

-- the number, or 0 where it is negative
abbrev pub not_negative : ℤ → ℕ
not_negative (pos n) = n
not_negative (negsuc n) = 0

-- the number, held within 0 to 100
abbrev pub percentage : ℤ → ℕ
percentage n = min (not_negative n) 100

-- the pixels of a dimension, or a hundred times them for a percentage: of a size of a cell, and how
-- many cells the window has
abbrev pub pixels_product : ITermDimension → ℕ → ℕ → ℕ
pixels_product Automatic cell_size num_cells = 0
pixels_product (Cells n) cell_size num_cells = not_negative n * cell_size
pixels_product (Pixels n) cell_size num_cells = not_negative n
pixels_product (Percent n) cell_size num_cells = percentage n * num_cells * cell_size

-- that number has 64 bits
abbrev pub FitsPixels : ITermDimension → ℕ → ℕ → Type 0
FitsPixels d cell_size num_cells = pixels_product d cell_size num_cells < 2 ^ 64

-- the pixels of a dimension; none where it is automatic
abbrev pub pixels_of : ITermDimension → ℕ → ℕ → Option ℕ
pixels_of Automatic cell_size num_cells = None
pixels_of (Cells n) cell_size num_cells = Some (pixels_product (Cells n) cell_size num_cells)
pixels_of (Pixels n) cell_size num_cells = Some (pixels_product (Pixels n) cell_size num_cells)
pixels_of (Percent n) cell_size num_cells =
    Some (pixels_product (Percent n) cell_size num_cells / 100)
