-- Styles: declarations of CSS, in an attribute `style`.
use Rattle.std.specs.Prelude.{ℕ, List, ◌++◌, codes}
use Rattle.std.specs.List.{flat_map}
use Rattle.esc_style.specs.Colors.{color_code}
use Rattle.esc_style.specs.declared.style.Style.{Style}
use Rattle.esc_style.specs.declared.style.Style.TheVariants.{Color, BackgroundColor, TextDecorationColor}

-- the property that is declared, with its colon
abbrev pub style_property : Style → List ℕ
style_property (Color r g b) = codes "color:"
style_property (BackgroundColor r g b) = codes "background-color:"
style_property (TextDecorationColor r g b) = codes "text-decoration-color:"

-- the colour that it has
abbrev pub style_color : Style → ℕ × ℕ × ℕ
style_color (Color r g b) = (r, g, b)
style_color (BackgroundColor r g b) = (r, g, b)
style_color (TextDecorationColor r g b) = (r, g, b)

-- the property, its colour by numbers alone, and a semicolon
abbrev pub style_text : Style → List ℕ
style_text s = style_property s ++ color_code (style_color s)

abbrev pub styles_text : List Style → List ℕ
styles_text ss = flat_map style_text ss
