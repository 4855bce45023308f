-- The text that paints a screen makes a terminal show it.
use Rattle.std.proofs.Common.{ℕ, ◌≡◌, ◌<◌, true, List, [], ◌∷◌, ◌++◌, map, Option, Some, refl, ap, sym, subst, ◌∙◌, append-nil, arith}
use Rattle.esc_frame.specs.Segments.{joined_bytes}
use Rattle.esc_frame.specs.Stream.{IsAfterFinished}
use Rattle.esc_actions.specs.Meaning.{meaning_within, yield_within}
use Rattle.esc_actions.specs.Readings.{MeansItsSegments}
use Rattle.esc_actions.proofs.Meaning.MeaningsJoin.{yield_whole}
use Rattle.esc_sgr.specs.Sgr.{same_look}
use Rattle.esc_style.specs.declared.look.Look.{Look}
use Rattle.esc_screen.specs.Grids.{Size}
use Rattle.esc_screen.proofs.Sound.StaysSound.{begins_sound}
use Rattle.esc_screen.specs.Steps.{grid_from}
use Rattle.esc_screen.specs.declared.cell.Cell.{Cell}
use Rattle.esc_screen.specs.declared.content.Content.{Content}
use Rattle.esc_screen.specs.declared.content.Content.TheVariants as content
use Rattle.esc_terminal.specs.Laws.{GoesOn, IsAlwaysSound}
use Rattle.esc_terminal.specs.Looks.{erased_look}
use Rattle.esc_terminal.specs.Streams.{first_shown, shown_after, shown_of, values_of}
use Rattle.esc_paint.specs.declared.pen.Pen.{Pen}
use Rattle.esc_paint.specs.Parts.{part_step}
use Rattle.esc_paint.specs.Painting.{first_pen, paint_parts, painting_text, pen_by}
use Rattle.esc_paint.specs.Laws.{Paints, PaintsNew, PaintsOver, ShowsSame, contents_of}
use Rattle.esc_paint.proofs.Painted.{painted_cell, painted_cells}
use Rattle.esc_paint.proofs.Parts.{all_read, all_shown, readings, text_is}
use Rattle.esc_paint.proofs.Plain.{paint_fits}
use Rattle.esc_paint.proofs.Screens.{painted_row, paints}
use Rattle.esc_paint.proofs.Texts.{all_values, texts_mean}

-- ---- looks that are all plain

-- they have one number
abbrev pub number : Look → ℕ
number l = 0

pub same : (a b : Look) → same_look a b ≡ true
    → (number a ≡ number b) × (number (erased_look a) ≡ number (erased_look b))
same a b h = (refl, refl)

-- ---- the contents of painted cells

one_content : (f : ℕ → Look) (s : Size) (p : Pen) (l : Look) (c : Content)
    → (painted_cell number same f s p l c).content ≡ c
one_content f s p l content.Blank = refl
one_content f s p l (content.Narrow c m) = refl
one_content f s p l (content.Wide c m) = refl
one_content f s p l content.Rest = refl

row_contents : (f : ℕ → Look) (s : Size) (p : Pen) (xs : List Cell)
    → map (λ x. x.content) (painted_cells number same f s p xs) ≡ map (λ x. x.content) xs
row_contents f s p [] = refl
row_contents f s p (x ∷ xs) =
    let q = pen_by p (f x.look) x.content in
    ap (λ c. c ∷ map (λ y. y.content) (painted_cells number same f s q xs))
    (one_content f s p (f x.look) x.content)
    ∙ ap (λ z. x.content ∷ z) (row_contents f s q xs)

all_contents : (f : ℕ → Look) (s : Size) (xss : List (List Cell))
    → contents_of (map (painted_row number same f s refl) xss) ≡ contents_of xss
all_contents f s [] = refl
all_contents f s (xs ∷ xss) =
    ap (λ c. c ∷ contents_of (map (painted_row number same f s refl) xss))
    (row_contents f s first_pen xs)
    ∙ ap (λ z. map (λ x. x.content) xs ∷ z) (all_contents f s xss)

-- ---- laws

pub paints_any : (A : Type 0) → MeansItsSegments A → Paints A
paints_any A means = λ f s t g old h.
    let ps = paint_parts f s g in
    let fits = paint_fits f s g h.sound.rows h.sound.cursor h.size.0 h.size.1 h.drawn h.plain in
    let meant : values_of A (painting_text f s g) ≡ all_values (readings {A = A} ps) =
    ap (meaning_within {A = A} (Some 0x1000)) (sym (text_is A ps))
    ∙ texts_mean {A = A} means (Some 0x1000) (readings ps) (all_read A ps fits) in
    let shown = ap (shown_after {A = A} s t) meant ∙ all_shown A s t ps number fits in
    let z = grid_from s t.grid (map (part_step number) ps) in
    let is : (shown_after s t (values_of A (painting_text f s g))).grid
    ≡ z = ap (λ x. x.grid) shown in
    let e = paints number same f s refl t.grid g old.rows h.whole h.drawn h.sound.rows
    h.sound.cursor in
    subst (ShowsSame s g) (sym is) (record {
      contents = ap contents_of e.rows ∙ all_contents f s g.rows;
      row = e.row;
      column = e.column;
      pending = e.pending;
    })

pub paints_over : (A : Type 0) → Paints A → GoesOn A → IsAlwaysSound A
    → ((limit : Option ℕ) (s u b : List ℕ) → IsAfterFinished s u
    → yield_within {A = A} limit s b ≡ yield_within limit u b) → PaintsOver A
paints_over A paint on sound alone = λ f s b g ground h.
    let x = painting_text f s g in
    let rows : 0 < s.rows = omega (arith, h.sound.cursor.row) in
    let columns : 0 < s.columns = omega (arith, h.sound.cursor.column) in
    let after : IsAfterFinished b [] =
    (ground.0, ground.1.whole ∙ sym (append-nil (joined_bytes ground.0)), ground.2) in
    let meant : yield_within {A = A} (Some 0x1000) b x ≡ values_of A x =
    alone (Some 0x1000) b [] x after ∙ yield_whole {A = A} (Some 0x1000) x in
    let t = shown_of A s b in
    let is : shown_of A s (b ++ x) ≡ shown_after s t (values_of A x) =
    on s b x ∙ ap (shown_after {A = A} s t) meant in
    subst (λ k. ShowsSame s g k.grid) (sym is) (paint f s t g (sound s b rows columns) h)

pub paints_new : (A : Type 0) → Paints A → PaintsNew A
paints_new A paint = λ f s g h.
    let rows : 0 < s.rows = omega (arith, h.sound.cursor.row) in
    let columns : 0 < s.columns = omega (arith, h.sound.cursor.column) in
    paint f s (first_shown s) g (begins_sound s rows columns) h
