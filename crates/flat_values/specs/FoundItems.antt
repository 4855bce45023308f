-- Colours, links, progress and dynamic colours that rows say.
use Rattle.std.specs.Prelude.{ℕ, ◌==◌, if◌then◌else◌, List, [], ◌∷◌, ◌++◌, Option, Some, None, option_to_list}
use Rattle.std.specs.Option.{option_map, unwrap_or}
use Rattle.esc_links.specs.declared.hyperlink.Hyperlink.{Hyperlink}
use Rattle.esc_osc_values.specs.Codes.{color_of}
use Rattle.esc_osc_values.specs.declared.change_color_pair.ChangeColorPair.{ChangeColorPair}
use Rattle.esc_osc_values.specs.declared.color_or_query.ColorOrQuery.{ColorOrQuery}
use Rattle.esc_osc_values.specs.declared.color_or_query.ColorOrQuery.TheVariants.{Color, Query}
use Rattle.esc_osc_values.specs.declared.dynamic_color_number.DynamicColorNumber.{DynamicColorNumber}
use Rattle.esc_osc_values.specs.declared.dynamic_color_number.DynamicColorNumber.TheVariants as dynamic
use Rattle.esc_osc_values.specs.declared.progress.Progress.{Progress}
use Rattle.esc_osc_values.specs.declared.progress.Progress.TheVariants as progress
use Rattle.flat_values.specs.Fields.{Value}
use Rattle.flat_values.specs.Found.{NamedValue, Reading, byte_of, channel_of, count_of, first, flag_of, held_form, is_named, parameters, second, string_of}
use Rattle.flat_values.specs.declared.read_colors.Known.{Known}
use Rattle.flat_values.specs.declared.field_name.FieldName.TheVariants as name

-- These are the known parts of an item before a row: a place of the palette, red and green. With
-- the row there are more, or the colour of the item is whole.
abbrev pub nothing : Known
nothing = record { place = 0; red = 0; green = 0 }

abbrev pub known_plus : Reading → Known → NamedValue → Known
known_plus r k s = record {
  place = if is_named name.PaletteIndex s then byte_of r s.1 else k.place;
  red = if is_named name.Red s then channel_of r s.1 else k.red;
  green = if is_named name.Green s then channel_of r s.1 else k.green;
}

abbrev pub whole : Reading → Known → NamedValue → Option ColorOrQuery
whole r k s = if is_named name.Blue s
    then Some (Color (record { red = k.red; green = k.green; blue = channel_of r s.1 }))
    else if is_named name.Query s then Some Query else None

abbrev pub placed_pair : ℕ → ColorOrQuery → ChangeColorPair
placed_pair n c = record { palette_index = n; color = c }

-- the items that colours make, each with the place before it
abbrev pub items_after : {X : Type 0} → Reading → (ℕ → ColorOrQuery → X) → Known
    → List NamedValue → List X
items_after r f k [] = []
items_after r f k (s ∷ ss) = option_to_list (option_map (f k.place) (whole r k s))
    ++ items_after r f (known_plus r k s) ss

abbrev pub pairs_after : Reading → Known → List NamedValue → List ChangeColorPair
pairs_after r k ss = items_after r placed_pair k ss

abbrev pub colors_after : Reading → Known → List NamedValue → List ColorOrQuery
colors_after r k ss = items_after r (λ n c. c) k ss

-- a dynamic colour by its number, which is small
abbrev pub dynamic_of : Value → DynamicColorNumber
dynamic_of v = unwrap_or (color_of (byte_of held_form v)) dynamic.TextForegroundColor

-- a progress by the number of its state
abbrev pub progress_of : ℕ → ℕ → Progress
progress_of n p = if n == 0 then progress.None else if n == 1 then progress.SetPercentage p
    else if n == 2 then progress.SetError p else if n == 3 then progress.SetIndeterminate
    else progress.Paused

abbrev pub progress_in : Reading → List NamedValue → Progress
progress_in r ss = progress_of (count_of (first ss)) (byte_of r (second ss))

-- a link, or none
abbrev pub link_in : {A : Type 0} → Reading → List NamedValue → Option (Hyperlink A)
link_in r [] = None
link_in r (u ∷ []) = None
link_in r (u ∷ i ∷ ss) = Some (record {
  params = r.parameters (parameters r ss);
  uri = string_of r u.1;
  implicit = flag_of i.1;
})
