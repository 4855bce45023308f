-- Colours, links, progress and dynamic colours are read back from their rows.
use Rattle.std.proofs.Common.{ℕ, ◌≡◌, ◌^◌, List, [], ◌∷◌, ◌++◌, Option, Some, None, refl, map, ap, ◌∙◌}
use Rattle.std.specs.List.{flat_map}
use Rattle.esc_links.specs.declared.hyperlink.Hyperlink.{Hyperlink}
use Rattle.esc_osc_values.specs.Codes.{color_number}
use Rattle.esc_osc_values.specs.declared.change_color_pair.ChangeColorPair.{ChangeColorPair}
use Rattle.esc_osc_values.specs.declared.color_or_query.ColorOrQuery.{ColorOrQuery}
use Rattle.esc_osc_values.specs.declared.color_or_query.ColorOrQuery.TheVariants.{Color, Query}
use Rattle.esc_osc_values.specs.declared.dynamic_color_number.DynamicColorNumber.{DynamicColorNumber}
use Rattle.esc_osc_values.specs.declared.dynamic_color_number.DynamicColorNumber.TheVariants as dynamic
use Rattle.esc_osc_values.specs.declared.progress.Progress.{Progress}
use Rattle.esc_osc_values.specs.declared.progress.Progress.TheVariants as progress
use Rattle.flat_values.proofs.ValuesBack.{Fits, both_within, flag_back, parameters_back}
use Rattle.flat_values.specs.Commands.{color_fields, pair_fields, progress_fields}
use Rattle.flat_values.specs.Fields.{Field, named_values}
use Rattle.flat_values.specs.Fields.Value.{Number}
use Rattle.flat_values.specs.Found.{Reading}
use Rattle.flat_values.specs.FoundItems.{colors_after, dynamic_of, link_in, pairs_after, placed_pair, progress_in}
use Rattle.flat_values.specs.Held.{AreWithin, Bounds, color_parts, link_parts, pair_parts, progress_parts}
use Rattle.flat_values.specs.Links.{link_fields}
use Rattle.flat_values.specs.declared.read_colors.Known.{Known}
use Rattle.std.specs.Prelude.{pos}

pub dynamic_back : (c : DynamicColorNumber) → dynamic_of (Number (pos (color_number c))) ≡ c
dynamic_back dynamic.TextForegroundColor = refl
dynamic_back c = refl

module _ (r : Reading) (b : Bounds) (f : Fits r b) where
  -- colours of the palette: an item first, where the rest is read whatever is known before it
  pair_first : (k : Known) (n : ℕ) (c : ColorOrQuery) (fs : List Field)
      (ps : List ChangeColorPair) → b.Number (2 ^ 8) n → AreWithin b (color_parts c)
      → ((j : Known) → pairs_after r j (map named_values fs) ≡ ps)
      → pairs_after r k (map named_values (pair_fields (placed_pair n c) ++ fs)) ≡ placed_pair n c
      ∷ ps
  pair_first k n (Color c) fs ps small held rest =
      let place_is = f.number (2 ^ 8) n small in
      let red_is = f.number (2 ^ 16) c.red held.0 in
      let green_is = f.number (2 ^ 16) c.green held.1.0 in
      let blue_is = f.number (2 ^ 16) c.blue held.1.1.0 in
      let rest_is = rest _ in
      λ i. placed_pair (place_is i)
      (Color (record { red = red_is i; green = green_is i; blue = blue_is i })) ∷ rest_is i
  pair_first k n Query fs ps small held rest =
      let place_is = f.number (2 ^ 8) n small in
      let rest_is = rest _ in
      λ i. placed_pair (place_is i) Query ∷ rest_is i

  pub pairs_back : (ps : List ChangeColorPair) → AreWithin b (flat_map pair_parts ps) → (k : Known)
      → pairs_after r k (map named_values (flat_map pair_fields ps)) ≡ ps
  pairs_back [] held k = refl
  pairs_back (p ∷ ps) held k =
      let both = both_within b (color_parts p.color) (flat_map pair_parts ps) held.1 in
      pair_first k p.palette_index p.color (flat_map pair_fields ps) ps held.0 both.0
      (pairs_back ps both.1)

  -- colours alone
  color_first : (k : Known) (c : ColorOrQuery) (fs : List Field) (cs : List ColorOrQuery)
      → AreWithin b (color_parts c) → ((j : Known) → colors_after r j (map named_values fs) ≡ cs)
      → colors_after r k (map named_values (color_fields c ++ fs)) ≡ c ∷ cs
  color_first k (Color c) fs cs held rest =
      let red_is = f.number (2 ^ 16) c.red held.0 in
      let green_is = f.number (2 ^ 16) c.green held.1.0 in
      let blue_is = f.number (2 ^ 16) c.blue held.1.1.0 in
      let rest_is = rest _ in
      λ i. Color (record { red = red_is i; green = green_is i; blue = blue_is i }) ∷ rest_is i
  color_first k Query fs cs held rest = ap (λ more. Query ∷ more) (rest _)

  pub colors_back : (cs : List ColorOrQuery) → AreWithin b (flat_map color_parts cs) → (k : Known)
      → colors_after r k (map named_values (flat_map color_fields cs)) ≡ cs
  colors_back [] held k = refl
  colors_back (c ∷ cs) held k =
      let both = both_within b (color_parts c) (flat_map color_parts cs) held in
      color_first k c (flat_map color_fields cs) cs both.0 (colors_back cs both.1)

  pub progress_back : (p : Progress) → AreWithin b (progress_parts p)
      → progress_in r (map named_values (progress_fields p)) ≡ p
  progress_back progress.None held = refl
  progress_back (progress.SetPercentage n) held =
      ap progress.SetPercentage (f.number (2 ^ 8) n held.0)
  progress_back (progress.SetError n) held = ap progress.SetError (f.number (2 ^ 8) n held.0)
  progress_back progress.SetIndeterminate held = refl
  progress_back progress.Paused held = refl

  pub link_back : {A : Type 0} (h : Option (Hyperlink A)) → AreWithin b (link_parts h)
      → link_in r (map named_values (link_fields h)) ≡ h
  link_back None held = refl
  link_back (Some h) held =
      let params_are = ap r.parameters (parameters_back r b f h.params held.1.1)
      ∙ f.parameters h.params held.1.0 in
      let uri_is = f.text h.uri held.0 in
      let implicit_is = flag_back h.implicit in
      λ i. Some (record { params = params_are i; uri = uri_is i; implicit = implicit_is i })
