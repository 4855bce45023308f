-- The kinds of looks.
use Rattle.std.proofs.Common.{◌≡◌, Bool, true, false, not, ◌&&◌, is_none, refl, ap, sym, subst, ◌∙◌}
use Rattle.std.proofs.lemmas.Bool.{and_parts, true≢false}
use Rattle.typed_functions.specs.declared.ansi_color.AnsiColor.{AnsiColor}
use Rattle.esc_html.proofs.Looks.PlainHasNoAttribute.{plain_is, plain_same}
use Rattle.esc_html.specs.Plain.{has_mark, is_colored, is_colored_alone, is_colorless, is_marked, is_markless, is_named, is_of_kind, is_own, is_single, mark_look, marking, look_without}
use Rattle.esc_html.specs.declared.mark.Mark.{Mark}
use Rattle.esc_html.specs.declared.mark.Mark.TheVariants as mark
use Rattle.esc_html.specs.declared.page_look.Kind.{Kind}
use Rattle.esc_html.specs.declared.page_look.Kind.TheVariants as kind
use Rattle.esc_style.specs.Looks.{is_plain, look_by, plain_look, underline_class}
use Rattle.esc_style.specs.declared.color.Color.{Color}
use Rattle.esc_style.specs.declared.color.Color.TheVariants.{Default, Named, Palette, Direct}
use Rattle.esc_style.specs.declared.look.Look.{Look}
use Rattle.esc_sequences.specs.declared.underline.Underline.{Underline}
use Rattle.esc_sequences.specs.declared.underline.Underline.TheVariants as underline

not_so : {X : Type 0} → false ≡ true → X
not_so e = absurd (true≢false (sym e))

none : (b : Bool) → (b && false) ≡ false
none true = refl
none false = refl

not_true : (b : Bool) → not b ≡ true → b ≡ false
not_true true e = not_so e
not_true false e = refl

named_not_own : (f : Color) → is_named f ≡ true → is_own f ≡ false
named_not_own Default e = not_so e
named_not_own (Named c) e = refl
named_not_own (Palette n) e = not_so e
named_not_own (Direct c) e = not_so e

-- a look in a colour needs a span
named_is_seen : (l : Look) → is_named l.foreground ≡ true → is_plain l ≡ false
named_is_seen l e =
    sym (plain_same l)
    ∙ ap (λ b. is_markless l && (b && (is_own l.background && is_own l.underline_color)))
    (named_not_own l.foreground e) ∙ none (is_markless l)

pub kind_plain : (k : Kind) (l : Look) → is_of_kind k l ≡ true → k ≡ kind.Plain
    → is_plain l ≡ true
kind_plain k l h e = subst (λ j. is_of_kind j l ≡ true) e h

pub kind_alone : (k : Kind) (l : Look) → is_of_kind k l ≡ true → k ≡ kind.Colored
    → is_colored_alone l ≡ true
kind_alone k l h e =
    (and_parts (is_colored_alone l) (is_named l.foreground)
    (subst (λ j. is_of_kind j l ≡ true) e h)).0

pub kind_colored : (k : Kind) (l : Look) → is_of_kind k l ≡ true → k ≡ kind.Colored
    → is_plain l ≡ false
kind_colored k l h e =
    named_is_seen l ((and_parts (is_colored_alone l) (is_named l.foreground)
    (subst (λ j. is_of_kind j l ≡ true) e h)).1)

pub kind_other : (k : Kind) (l : Look) → is_of_kind k l ≡ true → k ≡ kind.Other
    → is_plain l ≡ false
kind_other k l h e = not_true (is_plain l) (subst (λ j. is_of_kind j l ≡ true) e h)

pub other_is : (l : Look) → is_plain l ≡ false → is_of_kind kind.Other l ≡ true
other_is l e = ap not e

-- ---- a colour of the characters

without : (m f x : Bool) → (m && (f && x)) ≡ true → ((m && x) && true) ≡ true
without true true true e = refl
without true true false e = e
without true false x e = not_so e
without false f x e = not_so e

alone : (a b : Bool) → (a && b) ≡ true → (a && true) ≡ true
alone true b e = refl
alone false b e = not_so e

pub plain_colored : (l : Look) (c : AnsiColor) → is_plain l ≡ true
    → is_of_kind kind.Colored (record l { foreground = Named c }) ≡ true
plain_colored l c e =
    without (is_markless l) (is_own l.foreground)
    (is_own l.background && is_own l.underline_color) (plain_same l ∙ e)

pub colored_colored : (l : Look) (c : AnsiColor) → is_of_kind kind.Colored l ≡ true
    → is_of_kind kind.Colored (record l { foreground = Named c }) ≡ true
colored_colored l c e = alone (is_colored_alone l) (is_named l.foreground) e

pub other_colored : (l : Look) (c : AnsiColor)
    → is_of_kind kind.Other (record l { foreground = Named c }) ≡ true
other_colored l c = other_is (record l { foreground = Named c })
    (named_is_seen (record l { foreground = Named c }) refl)

-- ---- a mark

after : (a b : Bool) → b ≡ false → (a && b) ≡ false
after a b e = ap (λ x. a && x) e ∙ none a

marked_unlike : (m : Mark) (l : Look) → is_markless (look_by l (marking m)) ≡ false
marked_unlike mark.Bold l = refl
marked_unlike mark.Faint l = none (not l.bold)
marked_unlike mark.Italic l = after (not l.bold) _ (none (not l.faint))
marked_unlike mark.Underlined l =
    after (not l.bold) _ (after (not l.faint) _ (none (not l.italic)))
marked_unlike mark.Inverse l =
    after (not l.bold) _ (after (not l.faint) _ (after (not l.italic) _
    (after (is_none (underline_class l.underline)) _ (none (not l.blink)))))
marked_unlike mark.Strikethrough l =
    after (not l.bold) _ (after (not l.faint) _ (after (not l.italic) _
    (after (is_none (underline_class l.underline)) _ (after (not l.blink) _
    (after (not l.inverse) _ (none (not l.concealed)))))))

-- a look with a mark needs a span
marked_is_seen : (m : Mark) (l : Look) → is_plain (look_by l (marking m)) ≡ false
marked_is_seen m l =
    sym (plain_same (look_by l (marking m)))
    ∙ ap (λ b. b && is_colorless (look_by l (marking m))) (marked_unlike m l)

single_is : (u : Underline) → is_single u ≡ true → u ≡ underline.Single
single_is underline.None e = not_so e
single_is underline.Single e = refl
single_is underline.Double e = not_so e
single_is underline.Curly e = not_so e
single_is underline.Dotted e = not_so e
single_is underline.Dashed e = not_so e

-- a look with a mark is that without it, with the mark
again : (m : Mark) (l : Look) → has_mark m l ≡ true → l ≡ look_by (look_without m l) (marking m)
again mark.Bold l e = ap (λ b. record l { bold = b }) e
again mark.Faint l e = ap (λ b. record l { faint = b }) e
again mark.Italic l e = ap (λ b. record l { italic = b }) e
again mark.Underlined l e = ap (λ u. record l { underline = u }) (single_is l.underline e)
again mark.Inverse l e = ap (λ b. record l { inverse = b }) e
again mark.Strikethrough l e = ap (λ b. record l { strikethrough = b }) e

marked_is : (m : Mark) (l : Look) → is_marked m l ≡ true → l ≡ mark_look m
marked_is m l e =
    let k = and_parts (has_mark m l) (is_plain (look_without m l)) e in
    again m l k.0 ∙ ap (λ x. look_by x (marking m)) (plain_is (look_without m l) k.1)

pub kind_marked : (k : Kind) (m : Mark) (l : Look) → is_of_kind k l ≡ true → k ≡ kind.Marked m
    → l ≡ mark_look m
kind_marked k m l h e = marked_is m l (subst (λ j. is_of_kind j l ≡ true) e h)

pub kind_marked_seen : (k : Kind) (m : Mark) (l : Look) → is_of_kind k l ≡ true
    → k ≡ kind.Marked m → is_plain l ≡ false
kind_marked_seen k m l h e = ap is_plain (kind_marked k m l h e) ∙ marked_is_seen m plain_look

marked_alone : (m : Mark) → is_marked m (mark_look m) ≡ true
marked_alone mark.Bold = refl
marked_alone mark.Faint = refl
marked_alone mark.Italic = refl
marked_alone mark.Underlined = refl
marked_alone mark.Inverse = refl
marked_alone mark.Strikethrough = refl

pub plain_marked : (l : Look) (m : Mark) → is_plain l ≡ true
    → is_of_kind (kind.Marked m) (look_by l (marking m)) ≡ true
plain_marked l m e =
    subst (λ x. is_marked m (look_by x (marking m)) ≡ true) (sym (plain_is l e)) (marked_alone m)

pub other_marked : (l : Look) (m : Mark)
    → is_of_kind kind.Other (look_by l (marking m)) ≡ true
other_marked l m = other_is (look_by l (marking m)) (marked_is_seen m l)
