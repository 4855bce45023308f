-- Looks that are there once each have the places that they are at.
use Rattle.std.proofs.Common.{ℕ, suc, zero, ◌≡◌, ◌+◌, ◌==◌, ◌<◌, Bool, true, false, ◌&&◌, List, [], ◌∷◌, ◌++◌, length, get_or, if◌then◌else◌, refl, ap, sym, subst, ◌∙◌, arith}
use Rattle.std.proofs.Math.Bool.{beq}
use Rattle.std.proofs.lemmas.Bool.{and_parts, eqb-true, true≢false}
use Rattle.esc_sequences.specs.declared.underline.Underline.{Underline}
use Rattle.esc_sequences.specs.declared.underline.Underline.TheVariants as underline
use Rattle.typed_functions.specs.Numbers.{ansi_color_at, ansi_color_number}
use Rattle.typed_functions.specs.declared.ansi_color.AnsiColor.{AnsiColor}
use Rattle.typed_functions.specs.declared.ansi_color.AnsiColor.TheVariants as ansi
use Rattle.esc_style.specs.declared.color.Color.{Color}
use Rattle.esc_style.specs.declared.color.Color.TheVariants as color
use Rattle.esc_style.specs.declared.look.Look.{Look}
use Rattle.esc_sgr.specs.Sgr.{is_direct, same_color, same_flags, same_look, underline_code}
use Rattle.esc_terminal.specs.Looks.{IsNew, IsOnce, place_of}

-- ---- looks that are the same are one

same_bool : (x y : Bool) → beq x y ≡ true → x ≡ y
same_bool true true h = refl
same_bool true false h = absurd (true≢false (sym h))
same_bool false true h = absurd (true≢false (sym h))
same_bool false false h = refl

abbrev underline_at : ℕ → Underline
underline_at n = if n == 0 then underline.None
    else if n == 1 then underline.Single
    else if n == 2 then underline.Double
    else if n == 3 then underline.Curly
    else if n == 4 then underline.Dotted
    else underline.Dashed

underline_back : (u : Underline) → underline_at (underline_code u) ≡ u
underline_back underline.None = refl
underline_back underline.Single = refl
underline_back underline.Double = refl
underline_back underline.Curly = refl
underline_back underline.Dotted = refl
underline_back underline.Dashed = refl

same_underline : (u v : Underline) → (underline_code u == underline_code v) ≡ true → u ≡ v
same_underline u v h =
    sym (underline_back u) ∙ ap underline_at (eqb-true (underline_code u) (underline_code v) h)
    ∙ underline_back v

ansi_back : (c : AnsiColor) → ansi_color_at (ansi_color_number c) ≡ c
ansi_back ansi.Black = refl
ansi_back ansi.Red = refl
ansi_back ansi.Green = refl
ansi_back ansi.Yellow = refl
ansi_back ansi.Blue = refl
ansi_back ansi.Magenta = refl
ansi_back ansi.Cyan = refl
ansi_back ansi.White = refl
ansi_back ansi.BrightBlack = refl
ansi_back ansi.BrightRed = refl
ansi_back ansi.BrightGreen = refl
ansi_back ansi.BrightYellow = refl
ansi_back ansi.BrightBlue = refl
ansi_back ansi.BrightMagenta = refl
ansi_back ansi.BrightCyan = refl
ansi_back ansi.BrightWhite = refl

same_ansi : (c d : AnsiColor) → (ansi_color_number c == ansi_color_number d) ≡ true → c ≡ d
same_ansi c d h =
    sym (ansi_back c) ∙ ap ansi_color_at (eqb-true (ansi_color_number c) (ansi_color_number d) h)
    ∙ ansi_back d

same_direct : (a b : ℕ × ℕ × ℕ) → is_direct a (color.Direct b) ≡ true → a ≡ b
same_direct a b h =
    let k = and_parts (a.0 == b.0 && a.1 == b.1) (a.2 == b.2) h in
    let m = and_parts (a.0 == b.0) (a.1 == b.1) k.0 in
    ap (λ x. (x, a.1, a.2)) (eqb-true a.0 b.0 m.0)
    ∙ ap (λ x. (b.0, x, a.2)) (eqb-true a.1 b.1 m.1)
    ∙ ap (λ x. (b.0, b.1, x)) (eqb-true a.2 b.2 k.1)

color_is : (a b : Color) → same_color a b ≡ true → a ≡ b
color_is color.Default color.Default h = refl
color_is color.Default (color.Named d) h = absurd (true≢false (sym h))
color_is color.Default (color.Palette n) h = absurd (true≢false (sym h))
color_is color.Default (color.Direct v) h = absurd (true≢false (sym h))
color_is (color.Named c) color.Default h = absurd (true≢false (sym h))
color_is (color.Named c) (color.Named d) h = ap color.Named (same_ansi c d h)
color_is (color.Named c) (color.Palette n) h = absurd (true≢false (sym h))
color_is (color.Named c) (color.Direct v) h = absurd (true≢false (sym h))
color_is (color.Palette m) color.Default h = absurd (true≢false (sym h))
color_is (color.Palette m) (color.Named d) h = absurd (true≢false (sym h))
color_is (color.Palette m) (color.Palette n) h = ap color.Palette (eqb-true m n h)
color_is (color.Palette m) (color.Direct v) h = absurd (true≢false (sym h))
color_is (color.Direct a) color.Default h = absurd (true≢false (sym h))
color_is (color.Direct a) (color.Named d) h = absurd (true≢false (sym h))
color_is (color.Direct a) (color.Palette n) h = absurd (true≢false (sym h))
color_is (color.Direct a) (color.Direct b) h = ap color.Direct (same_direct a b h)

-- the flags of one, and the rest of another
flags_is : (a b : Look) → same_flags a b ≡ true → record a {
  bold = b.bold;
  faint = b.faint;
  italic = b.italic;
  blink = b.blink;
  inverse = b.inverse;
  concealed = b.concealed;
  strikethrough = b.strikethrough;
  overline = b.overline;
} ≡ a
flags_is a b h =
    let v = and_parts _ (beq a.overline b.overline) h in
    let u = and_parts _ (beq a.strikethrough b.strikethrough) v.0 in
    let t = and_parts _ (beq a.concealed b.concealed) u.0 in
    let s = and_parts _ (beq a.inverse b.inverse) t.0 in
    let r = and_parts _ (beq a.blink b.blink) s.0 in
    let q = and_parts _ (beq a.italic b.italic) r.0 in
    let p = and_parts (beq a.bold b.bold) (beq a.faint b.faint) q.0 in
    sym (ap (λ x. record a { bold = x }) (same_bool a.bold b.bold p.0)
    ∙ ap (λ x. record a { bold = b.bold; faint = x }) (same_bool a.faint b.faint p.1)
    ∙ ap (λ x. record a { bold = b.bold; faint = b.faint; italic = x })
    (same_bool a.italic b.italic q.1)
    ∙ ap (λ x. record a { bold = b.bold; faint = b.faint; italic = b.italic; blink = x })
    (same_bool a.blink b.blink r.1)
    ∙ ap (λ x. record a {
      bold = b.bold;
      faint = b.faint;
      italic = b.italic;
      blink = b.blink;
      inverse = x;
    }) (same_bool a.inverse b.inverse s.1)
    ∙ ap (λ x. record a {
      bold = b.bold;
      faint = b.faint;
      italic = b.italic;
      blink = b.blink;
      inverse = b.inverse;
      concealed = x;
    }) (same_bool a.concealed b.concealed t.1)
    ∙ ap (λ x. record a {
      bold = b.bold;
      faint = b.faint;
      italic = b.italic;
      blink = b.blink;
      inverse = b.inverse;
      concealed = b.concealed;
      strikethrough = x;
    }) (same_bool a.strikethrough b.strikethrough u.1)
    ∙ ap (λ x. record a {
      bold = b.bold;
      faint = b.faint;
      italic = b.italic;
      blink = b.blink;
      inverse = b.inverse;
      concealed = b.concealed;
      strikethrough = b.strikethrough;
      overline = x;
    }) (same_bool a.overline b.overline v.1))

pub look_is : (a b : Look) → same_look a b ≡ true → a ≡ b
look_is a b h =
    let s = and_parts _ (same_color a.underline_color b.underline_color) h in
    let r = and_parts _ (same_color a.background b.background) s.0 in
    let q = and_parts _ (same_color a.foreground b.foreground) r.0 in
    let p = and_parts (underline_code a.underline == underline_code b.underline)
    (same_flags a b) q.0 in
    sym (flags_is a b p.1)
    ∙ ap (λ x. record b {
      underline = x;
      foreground = a.foreground;
      background = a.background;
      underline_color = a.underline_color;
    }) (same_underline a.underline b.underline p.0)
    ∙ ap (λ x. record b {
      foreground = x;
      background = a.background;
      underline_color = a.underline_color;
    }) (color_is a.foreground b.foreground q.1)
    ∙ ap (λ x. record b { background = x; underline_color = a.underline_color })
    (color_is a.background b.background r.1)
    ∙ ap (λ x. record b { underline_color = x })
    (color_is a.underline_color b.underline_color s.1)

-- ---- one more

new_push : (k : Look) (ks : List Look) (l : Look) → IsNew k ks → same_look k l ≡ false
    → IsNew k (ks ++ l ∷ [])
new_push k [] l new h = (h, omega arith)
new_push k (j ∷ ks) l new h = (new.0, new_push k ks l new.1 h)

-- with one more that is none of them
pub once_push : (ks : List Look) (l : Look) → IsOnce ks → place_of l ks ≡ length ks
    → IsOnce (ks ++ l ∷ [])
once_push [] l once h = (omega arith, omega arith)
once_push (k ∷ ks) l once h =
    by_test (same_look k l) refl h (λ e. once_push ks l once.1 e)
  where
    by_test : (b : Bool) → same_look k l ≡ b
        → (if b then 0 else place_of l ks + 1) ≡ suc (length ks)
        → (place_of l ks ≡ length ks → IsOnce (ks ++ l ∷ [])) → IsOnce ((k ∷ ks) ++ l ∷ [])
    by_test true t e next = absurd (omega (arith, e))
    by_test false t e next = (new_push k ks l once.0 t, next (omega (arith, e)))
