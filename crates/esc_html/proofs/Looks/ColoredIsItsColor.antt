-- A look with nothing but a colour by its name is that of the colour.
use Rattle.std.proofs.Common.{ℕ, ◌≡◌, Bool, true, false, List, Option, Some, None, IfSome, refl, ap, sym, subst, ◌∙◌}
use Rattle.std.proofs.lemmas.Bool.{true≢false}
use Rattle.typed_functions.specs.declared.ansi_color.AnsiColor.{AnsiColor}
use Rattle.esc_html.proofs.Looks.PlainHasNoAttribute.{look}
use Rattle.esc_html.specs.PageParts.{page_part_text, span}
use Rattle.esc_html.specs.Plain.{color_look, is_colored_alone}
use Rattle.esc_style.specs.declared.color.Color.{Color}
use Rattle.esc_style.specs.declared.color.Color.TheVariants.{Default, Named, Palette, Direct}
use Rattle.esc_style.specs.declared.look.Look.{Look}
use Rattle.esc_sequences.specs.declared.underline.Underline.{Underline}
use Rattle.esc_sequences.specs.declared.underline.Underline.TheVariants as underline

abbrev pub IsColored : AnsiColor → Look → Type 0
IsColored k l = is_colored_alone l ≡ true → l ≡ color_look k

not_so : {X : Type 0} → false ≡ true → X
not_so e = absurd (true≢false (sym e))

abbrev in_color : AnsiColor → Color → Color → Look
in_color k g d =
    look false false false underline.None false false false false false (Named k) g d

colors : (k : AnsiColor) (g d : Color) → IsColored k (in_color k g d)
colors k Default Default e = refl
colors k Default (Named x) e = not_so e
colors k Default (Palette x) e = not_so e
colors k Default (Direct x) e = not_so e
colors k (Named x) d e = not_so e
colors k (Palette x) d e = not_so e
colors k (Direct x) d e = not_so e

lines : (k : AnsiColor) (b v c t o : Bool) (g d : Color)
    → IsColored k (look false false false underline.None b v c t o (Named k) g d)
lines k true v c t o g d e = not_so e
lines k false true c t o g d e = not_so e
lines k false false true t o g d e = not_so e
lines k false false false true o g d e = not_so e
lines k false false false false true g d e = not_so e
lines k false false false false false g d e = colors k g d e

marks : (k : AnsiColor) (h i s : Bool) (u : Underline) (b v c t o : Bool) (g d : Color)
    → IsColored k (look h i s u b v c t o (Named k) g d)
marks k true i s u b v c t o g d e = not_so e
marks k false true s u b v c t o g d e = not_so e
marks k false false true u b v c t o g d e = not_so e
marks k false false false underline.None b v c t o g d e = lines k b v c t o g d e
marks k false false false underline.Single b v c t o g d e = not_so e
marks k false false false underline.Double b v c t o g d e = not_so e
marks k false false false underline.Curly b v c t o g d e = not_so e
marks k false false false underline.Dotted b v c t o g d e = not_so e
marks k false false false underline.Dashed b v c t o g d e = not_so e

-- the same, if its colour is known by a proof
pub is_colored : (l : Look) (k : AnsiColor) → l.foreground ≡ Named k → IsColored k l
is_colored l k f =
    subst (λ c. IsColored k (look l.bold l.faint l.italic l.underline l.blink l.inverse
    l.concealed l.strikethrough l.overline c l.background l.underline_color)) (sym f)
    (marks k l.bold l.faint l.italic l.underline l.blink l.inverse l.concealed
    l.strikethrough l.overline l.background l.underline_color)

pub colored_same : (l : Look) (k : AnsiColor) → l.foreground ≡ Named k
    → is_colored_alone l ≡ true
    → page_part_text (span false (color_look k)) ≡ page_part_text (span false l)
colored_same l k f e = sym (ap (λ m. page_part_text (span false m)) (is_colored l k f e))

pub colored_some : {T : Type 0} (r : Option T) (text : T → List ℕ) (b : Bool) (l : Look)
    (k : AnsiColor) → l.foreground ≡ Named k → b ≡ is_colored_alone l
    → IfSome r (λ t. (b ≡ true) × (text t ≡ page_part_text (span false (color_look k))))
    → IfSome r (λ t. text t ≡ page_part_text (span false l))
colored_some None text b l k f e h = tt
colored_some (Some t) text b l k f e h = h.1 ∙ colored_same l k f (sym e ∙ h.0)
