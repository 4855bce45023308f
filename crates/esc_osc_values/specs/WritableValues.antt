-- Which colours, numbers, selections and progresses read back from their texts.
use Rattle.std.specs.Prelude.{ℕ, ◌≡◌, ◌<◌, ◌≤◌, ◌%◌, List, [], ◌∷◌}
use Rattle.esc_osc_values.specs.declared.change_color_pair.ChangeColorPair.{ChangeColorPair}
use Rattle.esc_osc_values.specs.declared.color_or_query.ColorOrQuery.{ColorOrQuery}
use Rattle.esc_osc_values.specs.declared.color_or_query.ColorOrQuery.TheVariants.{Color, Query}
use Rattle.esc_osc_values.specs.declared.progress.Progress.{Progress}
use Rattle.esc_osc_values.specs.declared.progress.Progress.TheVariants as progress

-- every number is one of 8 bits
abbrev pub AreNumbers : List ℕ → Type 0
AreNumbers [] = Unit {0}
AreNumbers (n ∷ ns) = (n < 256) × AreNumbers ns

-- every channel is one of 16 bits
abbrev pub IsColor : ColorOrQuery → Type 0
IsColor (Color c) = (c.red < 65536) × (c.green < 65536) × (c.blue < 65536)
IsColor Query = Unit {0}

abbrev pub AreColors : List ColorOrQuery → Type 0
AreColors [] = Unit {0}
AreColors (c ∷ cs) = IsColor c × AreColors cs

abbrev pub ArePairs : List ChangeColorPair → Type 0
ArePairs [] = Unit {0}
ArePairs (p ∷ ps) = ((p.palette_index < 256) × IsColor p.color) × ArePairs ps

-- bits that all have names, at least one: the named bits are 1 to 13
abbrev pub IsNamed : ℕ → Type 0
IsNamed b = (b % 2 ≡ 0) × (0 < b) × (b ≤ 16382)

-- at most 100
abbrev pub IsProgress : Progress → Type 0
IsProgress (progress.SetPercentage n) = n ≤ 100
IsProgress (progress.SetError n) = n ≤ 100
IsProgress p = Unit {0}
