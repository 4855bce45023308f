-- A look without renditions, field by field, has neither a class nor a style.
use Rattle.std.proofs.Common.{ℕ, ◌≡◌, Bool, true, false, ◌&&◌, refl, sym, ◌∙◌}
use Rattle.std.proofs.lemmas.Bool.{true≢false}
use Rattle.esc_html.specs.Plain.{is_colorless, is_markless}
use Rattle.esc_style.specs.Looks.{is_plain, plain_look}
use Rattle.esc_style.specs.declared.color.Color.{Color}
use Rattle.esc_style.specs.declared.color.Color.TheVariants.{Default, Named, Palette, Direct}
use Rattle.esc_style.specs.declared.look.Look.{Look}
use Rattle.esc_sequences.specs.declared.underline.Underline.{Underline}
use Rattle.esc_sequences.specs.declared.underline.Underline.TheVariants as underline

abbrev pub look : Bool → Bool → Bool → Underline → Bool → Bool → Bool → Bool → Bool → Color → Color
    → Color → Look
look h i s u b v c t o f g d = record {
  bold = h;
  faint = i;
  italic = s;
  underline = u;
  blink = b;
  inverse = v;
  concealed = c;
  strikethrough = t;
  overline = o;
  foreground = f;
  background = g;
  underline_color = d;
}

abbrev IsSame : Look → Type 0
IsSame l = is_markless l && is_colorless l ≡ is_plain l

direct_around : (x : ℕ × ℕ × ℕ) (d : Color)
    → IsSame (look false false false underline.None false false false false false Default
    (Direct x) d)
direct_around x Default = refl
direct_around x (Named y) = refl
direct_around x (Palette y) = refl
direct_around x (Direct y) = refl

direct_text : (x : ℕ × ℕ × ℕ) (g d : Color)
    → IsSame (look false false false underline.None false false false false false (Direct x) g d)
direct_text x Default Default = refl
direct_text x Default (Named y) = refl
direct_text x Default (Palette y) = refl
direct_text x Default (Direct y) = refl
direct_text x (Named y) d = refl
direct_text x (Palette y) d = refl
direct_text x (Direct y) Default = refl
direct_text x (Direct y) (Named z) = refl
direct_text x (Direct y) (Palette z) = refl
direct_text x (Direct y) (Direct z) = refl

colors : (f g d : Color)
    → IsSame (look false false false underline.None false false false false false f g d)
colors Default Default Default = refl
colors Default Default (Named x) = refl
colors Default Default (Palette x) = refl
colors Default Default (Direct x) = refl
colors Default (Named x) d = refl
colors Default (Palette x) d = refl
colors Default (Direct x) d = direct_around x d
colors (Named x) g d = refl
colors (Palette x) g d = refl
colors (Direct x) g d = direct_text x g d

lines : (b v c t o : Bool) (f g d : Color)
    → IsSame (look false false false underline.None b v c t o f g d)
lines true v c t o f g d = refl
lines false true c t o f g d = refl
lines false false true t o f g d = refl
lines false false false true o f g d = refl
lines false false false false true f g d = refl
lines false false false false false f g d = colors f g d

marks : (h i s : Bool) (u : Underline) (b v c t o : Bool) (f g d : Color)
    → IsSame (look h i s u b v c t o f g d)
marks true i s u b v c t o f g d = refl
marks false true s u b v c t o f g d = refl
marks false false true u b v c t o f g d = refl
marks false false false underline.None b v c t o f g d = lines b v c t o f g d
marks false false false underline.Single b v c t o f g d = refl
marks false false false underline.Double b v c t o f g d = refl
marks false false false underline.Curly b v c t o f g d = refl
marks false false false underline.Dotted b v c t o f g d = refl
marks false false false underline.Dashed b v c t o f g d = refl

pub plain_same : (l : Look) → IsSame l
plain_same l = marks l.bold l.faint l.italic l.underline l.blink l.inverse l.concealed
    l.strikethrough l.overline l.foreground l.background l.underline_color

-- ---- and is the first one

not_so : {X : Type 0} → false ≡ true → X
not_so e = absurd (true≢false (sym e))

abbrev IsFirst : Look → Type 0
IsFirst l = (is_markless l && is_colorless l) ≡ true → l ≡ plain_look

first_colors : (f g d : Color)
    → IsFirst (look false false false underline.None false false false false false f g d)
first_colors Default Default Default e = refl
first_colors Default Default (Named x) e = not_so e
first_colors Default Default (Palette x) e = not_so e
first_colors Default Default (Direct x) e = not_so e
first_colors Default (Named x) d e = not_so e
first_colors Default (Palette x) d e = not_so e
first_colors Default (Direct x) d e = not_so e
first_colors (Named x) g d e = not_so e
first_colors (Palette x) g d e = not_so e
first_colors (Direct x) g d e = not_so e

first_lines : (b v c t o : Bool) (f g d : Color)
    → IsFirst (look false false false underline.None b v c t o f g d)
first_lines true v c t o f g d e = not_so e
first_lines false true c t o f g d e = not_so e
first_lines false false true t o f g d e = not_so e
first_lines false false false true o f g d e = not_so e
first_lines false false false false true f g d e = not_so e
first_lines false false false false false f g d e = first_colors f g d e

first_marks : (h i s : Bool) (u : Underline) (b v c t o : Bool) (f g d : Color)
    → IsFirst (look h i s u b v c t o f g d)
first_marks true i s u b v c t o f g d e = not_so e
first_marks false true s u b v c t o f g d e = not_so e
first_marks false false true u b v c t o f g d e = not_so e
first_marks false false false underline.None b v c t o f g d e = first_lines b v c t o f g d e
first_marks false false false underline.Single b v c t o f g d e = not_so e
first_marks false false false underline.Double b v c t o f g d e = not_so e
first_marks false false false underline.Curly b v c t o f g d e = not_so e
first_marks false false false underline.Dotted b v c t o f g d e = not_so e
first_marks false false false underline.Dashed b v c t o f g d e = not_so e

pub plain_is : (l : Look) → is_plain l ≡ true → l ≡ plain_look
plain_is l e =
    first_marks l.bold l.faint l.italic l.underline l.blink l.inverse l.concealed
    l.strikethrough l.overline l.foreground l.background l.underline_color (plain_same l ∙ e)
