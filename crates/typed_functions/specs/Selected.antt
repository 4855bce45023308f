-- The renditions that a sequence asks for.
use Rattle.std.specs.Prelude.{List, [], ◌∷◌, Option, IfSome}
use Rattle.esc_values.specs.declared.csi_param.CsiParam.{CsiParam}
use Rattle.typed_functions.specs.declared.rendition.Rendition.{Rendition}
use Rattle.typed_functions.specs.Functions.{Value, renditions}
use Rattle.typed_functions.specs.Renditions.{IsRendition}

-- a rendition, if it is known, and its entries
abbrev pub Selection : Type 0
Selection = Option Rendition × List CsiParam

-- the numbers of the colours of those that are known are bytes
abbrev pub AreSelected : List Selection → Type 0
AreSelected [] = Unit {0}
AreSelected (r ∷ rs) = IfSome r.0 IsRendition × AreSelected rs

-- the renditions that a value asks for are so; any other value asks for none
abbrev pub IsSelected : Value → Type 0
IsSelected (renditions rs) = AreSelected rs
IsSelected _ = Unit {0}
