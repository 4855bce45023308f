-- The renditions that go on over a line feed, and the stream in which they are written again.
use Rattle.std.proofs.Common.{ℕ, ◌≡◌, ◌+◌, ◌/◌, ◌%◌, Bool, true, false, ◌||◌, nat_lt, if◌then◌else◌, List, [], ◌∷◌, ◌++◌, Option, None, Some, codes, arith, refl, ap, sym, ◌∙◌, append_assoc, append-nil}
use Rattle.std.proofs.lemmas.Bool.{ne_eqb}
use Rattle.esc_actions.specs.Values.{Value}
use Rattle.esc_sequences.specs.declared.underline.Underline.{Underline}
use Rattle.esc_sequences.specs.declared.underline.Underline.TheVariants as underline
use Rattle.typed_functions.specs.Numbers.{ansi_color_number}
use Rattle.typed_functions.specs.declared.blink.Blink.{Blink}
use Rattle.typed_functions.specs.declared.blink.Blink.TheVariants as blink
use Rattle.typed_functions.specs.declared.color_spec.ColorSpec.{ColorSpec}
use Rattle.typed_functions.specs.declared.color_spec.ColorSpec.TheVariants as color
use Rattle.esc_pen.specs.Texts.{blink_text, color_text, colors_text, flag_text, flags_text, ink_text, intensity_text, named_number, number_text, pen_text, rgb_text, sequence, underline_text}
use Rattle.esc_pen.specs.declared.ink.Ink.{Ink}
use Rattle.esc_pen.specs.declared.ink.Ink.TheVariants as ink
use Rattle.esc_pen.specs.declared.pen.Pen.{Pen}
use Rattle.esc_filter.specs.Closing.{after_values, joined_lists}
use Rattle.esc_filter.specs.Lines.{IsLine, content, ends_line, has_line_feed, is_line_feed, lines, passed_of_content}
use Rattle.esc_filter.specs.Terminal.{as_at_start}
use Rattle.esc_filter.specs.Openings.{AreQuiet, is_blank, opening, opening_after, opening_at, opening_before, opening_left, opening_of, resumed_from}
use Rattle.esc_filter.specs.Pens.{pen_after, start_pen, text_of_pen}
use Rattle.esc_filter.specs.declared.guard.Guard.{Guard}
use Rattle.esc_filter.specs.declared.terminal.Terminal.{Terminal}
use Rattle.esc_filter.proofs.ByLine.BytesOfLines.{ends_append, feeds_append, line_ends, lines_append, no_end, one_line}

-- ---- no line feed in them

abbrev Feedless : List ℕ → Type 0
Feedless x = has_line_feed x ≡ false

digit : (n : ℕ) → is_line_feed (0x30 + n) ≡ false
digit n = ne_eqb (0x30 + n) 0x0a (λ e. omega (arith, e))

number_feedless : (n : ℕ) → Feedless (number_text n)
number_feedless n = by (nat_lt n 10) (nat_lt n 100)
  where
    by : (a b : Bool)
        → Feedless (if a then (0x30 + n) ∷ []
        else if b then (0x30 + n / 10) ∷ (0x30 + n % 10) ∷ []
        else (0x30 + n / 100) ∷ (0x30 + n / 10 % 10) ∷ (0x30 + n % 10) ∷ [])
    by true b = rw (digit n) refl
    by false true = rw (digit (n / 10), digit (n % 10)) refl
    by false false = rw (digit (n / 100), digit (n / 10 % 10), digit (n % 10)) refl

sequence_feedless : (x : List ℕ) → Feedless x → Feedless (sequence x)
sequence_feedless x h = feeds_append x (0x6d ∷ []) h refl

flag_feedless : (b : Bool) (x : List ℕ) → Feedless x → Feedless (flag_text b x)
flag_feedless true x h = sequence_feedless x h
flag_feedless false x h = refl

intensity_feedless : (b f : Bool) → Feedless (intensity_text b f)
intensity_feedless false false = refl
intensity_feedless true false = refl
intensity_feedless false true = refl
intensity_feedless true true = refl

underline_feedless : (u : Underline) → Feedless (underline_text u)
underline_feedless underline.None = refl
underline_feedless underline.Single = refl
underline_feedless underline.Double = refl
underline_feedless underline.Curly = refl
underline_feedless underline.Dotted = refl
underline_feedless underline.Dashed = refl

blink_feedless : (b : Blink) → Feedless (blink_text b)
blink_feedless blink.None = refl
blink_feedless blink.Slow = refl
blink_feedless blink.Rapid = refl

-- after a separator
parted : (s : ℕ) (x : List ℕ) → is_line_feed s ≡ false → Feedless x → Feedless (s ∷ x)
parted s x h k = rw h k

rgb_feedless : (s : ℕ) (c : ℕ × ℕ × ℕ) → is_line_feed s ≡ false → Feedless (rgb_text s c)
rgb_feedless s c h =
    parted s (number_text c.0 ++ (s ∷ (number_text c.1 ++ (s ∷ number_text c.2)))) h
    (feeds_append (number_text c.0) (s ∷ (number_text c.1 ++ (s ∷ number_text c.2)))
    (number_feedless c.0)
    (parted s (number_text c.1 ++ (s ∷ number_text c.2)) h
    (feeds_append (number_text c.1) (s ∷ number_text c.2) (number_feedless c.1)
    (parted s (number_text c.2) h (number_feedless c.2)))))

color_feedless : (t : List ℕ) (s : ℕ) (c : ColorSpec) → Feedless t → is_line_feed s ≡ false
    → Feedless (color_text t s c)
color_feedless t s color.Default h k = refl
color_feedless t s (color.PaletteIndex n) h k =
    sequence_feedless (t ++ (s ∷ 0x35 ∷ s ∷ number_text n))
    (feeds_append t (s ∷ 0x35 ∷ s ∷ number_text n) h
    (parted s (0x35 ∷ s ∷ number_text n) k (parted 0x35 (s ∷ number_text n) refl
    (parted s (number_text n) k (number_feedless n)))))
color_feedless t s (color.TrueColor c) h k =
    sequence_feedless (t ++ (s ∷ 0x32 ∷ rgb_text s c))
    (feeds_append t (s ∷ 0x32 ∷ rgb_text s c) h
    (parted s (0x32 ∷ rgb_text s c) k (parted 0x32 (rgb_text s c) refl (rgb_feedless s c k))))

ink_feedless : (base : ℕ) (t : List ℕ) (i : Ink) → Feedless t → Feedless (ink_text base t i)
ink_feedless base t (ink.Named c) h =
    sequence_feedless (number_text (named_number base (ansi_color_number c)))
    (number_feedless (named_number base (ansi_color_number c)))
ink_feedless base t (ink.Other c) h = color_feedless t 0x3b c h refl

pen_feedless : (p : Pen) → Feedless (pen_text p)
pen_feedless p =
    feeds_append (intensity_text p.bold p.faint)
    (underline_text p.underline ++ (blink_text p.blink ++ (flags_text p ++ colors_text p)))
    (intensity_feedless p.bold p.faint)
    (feeds_append (underline_text p.underline)
    (blink_text p.blink ++ (flags_text p ++ colors_text p)) (underline_feedless p.underline)
    (feeds_append (blink_text p.blink) (flags_text p ++ colors_text p) (blink_feedless p.blink)
    (feeds_append (flags_text p) (colors_text p)
    (feeds_append (flag_text p.italic (codes "3"))
    (flag_text p.inverse (codes "7") ++ (flag_text p.concealed (codes "8")
    ++ (flag_text p.strikethrough (codes "9") ++ flag_text p.overline (codes "53"))))
    (flag_feedless p.italic (codes "3") refl)
    (feeds_append (flag_text p.inverse (codes "7")) (flag_text p.concealed (codes "8")
    ++ (flag_text p.strikethrough (codes "9") ++ flag_text p.overline (codes "53")))
    (flag_feedless p.inverse (codes "7") refl)
    (feeds_append (flag_text p.concealed (codes "8"))
    (flag_text p.strikethrough (codes "9") ++ flag_text p.overline (codes "53"))
    (flag_feedless p.concealed (codes "8") refl)
    (feeds_append (flag_text p.strikethrough (codes "9")) (flag_text p.overline (codes "53"))
    (flag_feedless p.strikethrough (codes "9") refl)
    (flag_feedless p.overline (codes "53") refl)))))
    (feeds_append (ink_text 30 (codes "38") p.foreground)
    (ink_text 40 (codes "48") p.background ++ color_text (codes "58") 0x3a p.underline_color)
    (ink_feedless 30 (codes "38") p.foreground refl)
    (feeds_append (ink_text 40 (codes "48") p.background)
    (color_text (codes "58") 0x3a p.underline_color)
    (ink_feedless 40 (codes "48") p.background refl)
    (color_feedless (codes "58") 0x3a p.underline_color refl refl))))))

either_feedless : (b : Bool) (x y : List ℕ) → Feedless x → Feedless y
    → Feedless (if b then x else y)
either_feedless true x y h k = h
either_feedless false x y h k = k

some_feedless : (p : Option Pen) → Feedless (text_of_pen p)
some_feedless None = refl
some_feedless (Some p) = pen_feedless p

opening_feedless : (t : Terminal) (p : Option Pen) → Feedless (opening t p)
opening_feedless t p = either_feedless t.rendition (text_of_pen p) [] (some_feedless p) refl

left_feedless : {A : Type 0} (vs : List (Value A)) → Feedless (opening_left vs)
left_feedless vs = opening_feedless (after_values vs as_at_start) (pen_after vs (start_pen true))

-- ---- lines one after another

pub joined_end : (ls : List (List ℕ)) (l : List ℕ) → joined_lists ls ++ l
    ≡ joined_lists (ls ++ l ∷ [])
joined_end [] l = sym (append-nil l)
joined_end (k ∷ ls) l =
    append_assoc k (joined_lists ls) l ∙ ap (λ z. k ++ z) (joined_end ls l)

lines_one : (l : List ℕ) → IsLine l → lines l ≡ l ∷ []
lines_one l (x, none, e) =
    ap lines e ∙ one_line x 0x0a none refl ∙ ap (λ z. z ∷ []) (sym e)

parts : (p q : Bool) → (p || q) ≡ false → (p ≡ false) × (q ≡ false)
parts true q h = absurd cc
parts false q h = (refl, h)

module _ {A : Type 0} (u : Guard) (limit : ℕ) (admits : Value A → Bool) where
  abbrev After : List ℕ → List (List ℕ) → List ℕ
  After o ls = opening_after {A = A} u limit admits o ls

  abbrev pub Of : List ℕ → List ℕ
  Of x = opening_of {A = A} u limit admits x

  pub quiet_end : (ls : List (List ℕ)) (l : List ℕ) → AreQuiet u limit admits ls → IsLine l
      → After [] (l ∷ []) ≡ [] → AreQuiet u limit admits (ls ++ l ∷ [])
  quiet_end [] l quiet line none = (line, none, tt)
  quiet_end (k ∷ ls) l (a, b, rest) line none = (a, b, quiet_end ls l rest line none)

  after_append : (o : List ℕ) (xs ys : List (List ℕ)) → After o (xs ++ ys) ≡ After (After o xs) ys
  after_append o [] ys = refl
  after_append o (x ∷ xs) ys = after_append (if is_blank x then o else Of (content x)) xs ys

  after_feedless : (o : List ℕ) (ls : List (List ℕ)) → Feedless o → Feedless (After o ls)
  after_feedless o [] h = h
  after_feedless o (l ∷ ls) h =
      after_feedless (if is_blank l then o else Of (content l)) ls
      (either_feedless (is_blank l) o (Of (content l)) h
      (left_feedless (passed_of_content u limit admits (content l))))

  abbrev pub At : Bool → List ℕ → List ℕ
  At k d = opening_at {A = A} k u limit admits d

  pub at_none : (k : Bool) → At k [] ≡ []
  at_none true = refl
  at_none false = refl

  pub at_feedless : (k : Bool) (d : List ℕ) → Feedless (At k d)
  at_feedless true d = after_feedless [] (lines d) refl
  at_feedless false d = refl

  -- ---- after a line

  at_next : (d l : List ℕ) → ends_line true d ≡ true → IsLine l
      → At true (d ++ l) ≡ After (At true d) (l ∷ [])
  at_next d l ends line =
      ap (After []) (lines_append d l ends) ∙ after_append [] (lines d) (lines l)
      ∙ ap (After (After [] (lines d))) (lines_one l line)

  pub at_blank : (k : Bool) (d : List ℕ) → ends_line true d ≡ true
      → At k (d ++ 0x0a ∷ []) ≡ At k d
  at_blank true d ends = at_next d (0x0a ∷ []) ends ([], refl, refl)
  at_blank false d ends = refl

  pub at_text : (k : Bool) (d l : List ℕ) → ends_line true d ≡ true → IsLine l
      → is_blank l ≡ false → At k (d ++ l) ≡ (if k then Of (content l) else [])
  at_text true d l ends line some =
      at_next d l ends line ∙ ap (λ b. if b then At true d else Of (content l)) some
  at_text false d l ends line some = refl

  at_quiet : (k : Bool) (d l : List ℕ) → ends_line true d ≡ true → IsLine l → At k d ≡ []
      → After [] (l ∷ []) ≡ [] → At k (d ++ l) ≡ []
  at_quiet true d l ends line none quiet =
      at_next d l ends line ∙ ap (λ o. After o (l ∷ [])) none ∙ quiet
  at_quiet false d l ends line none quiet = refl

  -- ---- the stream in which they are written again

  abbrev pub From : Bool → List ℕ → List ℕ → List ℕ
  From k d s = resumed_from {A = A} k u limit admits d s

  abbrev Before : Bool → List ℕ → ℕ → List ℕ
  Before k d b = opening_before {A = A} k u limit admits d b

  pub from_more : (k : Bool) (d s b : List ℕ) → From k d (s ++ b) ≡ From k (From k d s) b
  from_more k d [] b = refl
  from_more k d (x ∷ s) b = from_more k (d ++ (Before k d x ++ x ∷ [])) s b

  -- it only grows
  pub from_longer : (k : Bool) (d s : List ℕ) → (x : List ℕ) × (From k d s ≡ d ++ x)
  from_longer k d [] = ([], sym (append-nil d))
  from_longer k d (b ∷ s) =
      let o = Before k d b ++ b ∷ [] in
      let (x, e) = from_longer k (d ++ o) s in (o ++ x, e ∙ append_assoc d o x)

  -- a line ends in it if one ends in the stream itself
  pub from_ends : (k : Bool) (d s : List ℕ)
      → ends_line true (From k d s) ≡ ends_line true (d ++ s)
  from_ends k d [] = ap (ends_line true) (sym (append-nil d))
  from_ends k d (b ∷ s) =
      let o = Before k d b in
      from_ends k (d ++ (o ++ b ∷ [])) s
      ∙ ends_append true (d ++ (o ++ b ∷ [])) s
      ∙ ap (λ t. ends_line t s)
      (ends_append true d (o ++ b ∷ []) ∙ ends_append (ends_line true d) o (b ∷ []))
      ∙ sym (ends_append true d (b ∷ s))

  -- in a line that has begun
  inside : (k : Bool) (d : List ℕ) (b : ℕ) → ends_line true d ≡ false → Before k d b ≡ []
  inside k d b h = rw h refl

  ends_inside : (d x : List ℕ) → ends_line true d ≡ false → Feedless x
      → ends_line true (d ++ x) ≡ false
  ends_inside d x h none =
      ends_append true d x ∙ ap (λ t. ends_line t x) h ∙ no_end x none

  pub from_inside : (k : Bool) (d x : List ℕ) → ends_line true d ≡ false → Feedless x
      → From k d x ≡ d ++ x
  from_inside k d [] h none = sym (append-nil d)
  from_inside k d (b ∷ x) h none =
      let q = parts (is_line_feed b) (has_line_feed x) none in
      ap (λ o. From k (d ++ (o ++ b ∷ [])) x) (inside k d b h)
      ∙ from_inside k (d ++ b ∷ []) x (ends_append true d (b ∷ []) ∙ q.0) q.1
      ∙ append_assoc d (b ∷ []) x

  feed_comes : (k : Bool) (d : List ℕ) (e : Bool) → ends_line true d ≡ e
      → From k d (0x0a ∷ []) ≡ d ++ 0x0a ∷ []
  feed_comes k d true h = rw h refl
  feed_comes k d false h = rw h refl

  pub line_inside : (k : Bool) (d x : List ℕ) → ends_line true d ≡ false → Feedless x
      → From k d (x ++ 0x0a ∷ []) ≡ d ++ (x ++ 0x0a ∷ [])
  line_inside k d x h none =
      from_more k d x (0x0a ∷ []) ∙ ap (λ z. From k z (0x0a ∷ [])) (from_inside k d x h none)
      ∙ feed_comes k (d ++ x) false (ends_inside d x h none) ∙ append_assoc d x (0x0a ∷ [])

  -- at the beginning of one
  pub from_first : (k : Bool) (d : List ℕ) (b : ℕ) (x : List ℕ) → ends_line true d ≡ true
      → Feedless (b ∷ x) → From k d (b ∷ x) ≡ d ++ (At k d ++ b ∷ x)
  from_first k d b x h none =
      let q = parts (is_line_feed b) (has_line_feed x) none in
      let o = At k d in
      let first : Before k d b ≡ o = rw (h, q.0) refl in
      let ends : ends_line true (d ++ (o ++ b ∷ [])) ≡ false =
      ends_append true d (o ++ b ∷ []) ∙ ends_append (ends_line true d) o (b ∷ []) ∙ q.0 in
      ap (λ z. From k (d ++ (z ++ b ∷ [])) x) first
      ∙ from_inside k (d ++ (o ++ b ∷ [])) x ends q.1
      ∙ append_assoc d (o ++ b ∷ []) x ∙ ap (λ z. d ++ z) (append_assoc o (b ∷ []) x)

  pub line_blank : (k : Bool) (d : List ℕ) → ends_line true d ≡ true
      → From k d (0x0a ∷ []) ≡ d ++ 0x0a ∷ []
  line_blank k d h = feed_comes k d true h

  pub line_first : (k : Bool) (d : List ℕ) (b : ℕ) (x : List ℕ) → ends_line true d ≡ true
      → Feedless (b ∷ x)
      → From k d (b ∷ (x ++ 0x0a ∷ [])) ≡ d ++ (At k d ++ b ∷ (x ++ 0x0a ∷ []))
  line_first k d b x h none =
      let q = parts (is_line_feed b) (has_line_feed x) none in
      let y = At k d ++ b ∷ x in
      let ends : ends_line true (d ++ y) ≡ false =
      ends_append true d y ∙ ends_append (ends_line true d) (At k d) (b ∷ x)
      ∙ ap (λ t. ends_line t x) q.0 ∙ no_end x q.1 in
      from_more k d (b ∷ x) (0x0a ∷ [])
      ∙ ap (λ z. From k z (0x0a ∷ [])) (from_first k d b x h none)
      ∙ feed_comes k (d ++ y) false ends ∙ append_assoc d y (0x0a ∷ [])
      ∙ ap (λ z. d ++ z) (append_assoc (At k d) (b ∷ x) (0x0a ∷ []))

  -- ---- lines that leave none on

  quiet_line : (k : Bool) (d x : List ℕ) → ends_line true d ≡ true → At k d ≡ [] → Feedless x
      → From k d (x ++ 0x0a ∷ []) ≡ d ++ (x ++ 0x0a ∷ [])
  quiet_line k d [] ends none h = line_blank k d ends
  quiet_line k d (b ∷ x) ends none h =
      line_first k d b x ends h ∙ ap (λ o. d ++ (o ++ b ∷ (x ++ 0x0a ∷ []))) none

  pub quiet_lines : (k : Bool) (d : List ℕ) (ls : List (List ℕ)) → ends_line true d ≡ true
      → At k d ≡ [] → AreQuiet u limit admits ls
      → (From k d (joined_lists ls) ≡ d ++ joined_lists ls) × (At k (d ++ joined_lists ls) ≡ [])
      × (ends_line true (d ++ joined_lists ls) ≡ true)
  quiet_lines k d [] ends none quiet = (
    sym (append-nil d),
    ap (At k) (append-nil d) ∙ none,
    ap (ends_line true) (append-nil d) ∙ ends,
  )
  quiet_lines k d (l ∷ ls) ends none (line, quiet, rest) =
      let (x, feedless, e) = line in
      let one : From k d l ≡ d ++ l =
      ap (From k d) e ∙ quiet_line k d x ends none feedless ∙ ap (λ z. d ++ z) (sym e) in
      let here = ends_append true d l ∙ line_ends (ends_line true d) l line in
      let (a, b, c) = quiet_lines k (d ++ l) ls here (at_quiet k d l ends line none quiet) rest in
      let same = append_assoc d l (joined_lists ls) in (
        from_more k d l (joined_lists ls) ∙ ap (λ z. From k z (joined_lists ls)) one ∙ a ∙ same,
        ap (At k) (sym same) ∙ b,
        ap (ends_line true) (sym same) ∙ c,
      )
