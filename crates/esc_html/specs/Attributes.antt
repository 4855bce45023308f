-- Attributes that are written part by part.
use Rattle.std.specs.Prelude.{ℕ, Bool, true, false, if◌then◌else◌, List, [], ◌∷◌, ◌++◌, codes, Option, Some, None}
use Rattle.esc_html.specs.Names.{span_names}
use Rattle.esc_style.specs.Classes.{class_name}
use Rattle.esc_style.specs.Styles.{style_text, styles_text}
use Rattle.esc_style.specs.declared.class.Class.{Class}
use Rattle.esc_style.specs.declared.style.Style.{Style}

abbrev pub is_empty : {X : Type 0} → List X → Bool
is_empty [] = true
is_empty (x ∷ xs) = false

-- the attribute `class` without the quote that ends it, if there are classes
abbrev pub begun_classes : List Class → List ℕ
begun_classes [] = []
begun_classes (c ∷ cs) = codes " class=\"" ++ span_names (c ∷ cs)

-- the text that a class adds to it: its name with the prefix
abbrev pub class_opener : Bool → List ℕ
class_opener first = if first then codes " class=\"es-" else codes " es-"

abbrev pub next_class : Bool → Option Class → List ℕ
next_class first None = []
next_class first (Some c) = class_opener first ++ class_name c

-- the same for the attribute `style`
abbrev pub begun_styles : List Style → List ℕ
begun_styles [] = []
begun_styles (s ∷ ss) = codes " style=\"" ++ styles_text (s ∷ ss)

abbrev pub style_opener : Bool → List ℕ
style_opener first = if first then codes " style=\"" else []

abbrev pub next_style : Bool → Option Style → List ℕ
next_style first None = []
next_style first (Some s) = style_opener first ++ style_text s

-- the quote that ends an attribute, if it was begun
abbrev pub ending_quote : Bool → List ℕ
ending_quote absent = if absent then [] else codes "\""
