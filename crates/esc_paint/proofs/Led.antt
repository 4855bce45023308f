-- The text that leads from one screen to another makes a terminal show the other.
use Rattle.std.proofs.Common.{ℕ, zero, suc, ◌≡◌, ◌+◌, ◌==◌, ◌<◌, nat_lt, Bool, true, false, not, ◌&&◌, List, [], ◌∷◌, ◌++◌, length, map, drop, get_or, if◌then◌else◌, Option, Some, refl, ap, sym, subst, ◌∙◌, append-nil, arith}
use Rattle.std.proofs.Math.Bool.{beq}
use Rattle.std.proofs.lemmas.Bool.{and_parts, eqb-true}
use Rattle.std.proofs.lemmas.Bool.Decides.{nat_tests}
use Rattle.esc_frame.specs.Segments.{joined_bytes}
use Rattle.esc_frame.specs.Stream.{IsAfterFinished}
use Rattle.esc_actions.specs.Meaning.{meaning_within, yield_within}
use Rattle.esc_actions.specs.Readings.{MeansItsSegments}
use Rattle.esc_actions.proofs.Meaning.MeaningsJoin.{yield_whole}
use Rattle.esc_style.specs.declared.look.Look.{Look}
use Rattle.esc_screen.specs.Grids.{Grid, Size}
use Rattle.esc_screen.specs.Halves.{AreWhole, HasWholeRows}
use Rattle.esc_screen.specs.Sound.{AreWide, IsSound}
use Rattle.esc_screen.specs.Steps.{grid_from}
use Rattle.esc_screen.proofs.Sound.StaysSound.{stays_sound}
use Rattle.esc_screen.proofs.Whole.GridsStayWhole.{stays_whole}
use Rattle.esc_screen.specs.declared.cell.Cell.{Cell}
use Rattle.esc_terminal.specs.Laws.{GoesOn, IsAlwaysSound, IsAlwaysWhole}
use Rattle.esc_terminal.specs.Streams.{shown_after, shown_of, values_of}
use Rattle.esc_paint.specs.Parts.{Part, part_step, parts_text, soft_reset}
use Rattle.esc_paint.specs.Painting.{cursor_parts, is_waiting, painting_text}
use Rattle.esc_paint.specs.Differences.{change_parts, difference, differences, is_other, last_grid, rows_changes, same_cursor, same_rows, same_screen, same_size}
use Rattle.esc_paint.specs.Laws.{ArePaintable, IsPaintable, Leads, LeadsOn, LeadsOver, SaysNothing, ShowsSame, contents_of}
use Rattle.esc_paint.proofs.Changing.{none_text}
use Rattle.esc_paint.proofs.Leading.{cut_at, led, same_height, wide_as}
use Rattle.esc_paint.proofs.Painted.{run_two}
use Rattle.esc_paint.proofs.Parts.{AllFit, all_read, all_shown, readings, text_is}
use Rattle.esc_paint.proofs.Plain.{fit_two, led_fits}
use Rattle.esc_paint.proofs.Alike.{all_same, bool_is, bool_same, both_same, number_same, same_contents}
use Rattle.esc_paint.proofs.Shown.{number, same}
use Rattle.esc_paint.proofs.Writing.{parts_two}
use Rattle.esc_paint.proofs.Texts.{all_values, texts_mean}

-- ---- screens that are the same

not_other : (b : Bool) → not b ≡ true → b ≡ false
not_other true h = sym h
not_other false h = refl

-- their rows have the same contents
rows_same : (f k : ℕ → Look) (n : ℕ) (xss yss uss vss : List (List Cell)) (r : ℕ)
    → drop r uss ≡ xss → drop r vss ≡ yss → AreWide n xss → AreWide n yss
    → length xss ≡ length yss → same_rows f k uss vss r (length yss) ≡ true
    → contents_of xss ≡ contents_of yss
rows_same f k n [] [] uss vss r d e wide full len all = refl
rows_same f k n [] (ys ∷ yss) uss vss r d e wide full len all = absurd (omega (arith, len))
rows_same f k n (xs ∷ xss) [] uss vss r d e wide full len all = absurd (omega (arith, len))
rows_same f k n (xs ∷ xss) (ys ∷ yss) uss vss r d e wide full len all =
    let old = cut_at uss r xs xss d in
    let new = cut_at vss r ys yss e in
    let fewer : length xss ≡ length yss = omega (arith, len) in
    let h = and_parts (not (is_other f k (get_or uss r []) (get_or vss r [])))
    (same_rows f k uss vss (r + 1) (length yss)) all in
    let one : is_other f k xs ys ≡ false =
    ap (λ z. is_other f k z ys) (sym old.0) ∙ ap (is_other f k (get_or uss r [])) (sym new.0)
    ∙ not_other _ h.0 in
    ap (λ c. c ∷ contents_of xss) (same_contents f k xs ys (wide.0 ∙ sym full.0) one)
    ∙ ap (λ z. map (λ y. y.content) ys ∷ z)
    (rows_same f k n xss yss uss vss (r + 1) old.1 new.1 wide.1 full.1 fewer h.1)

-- a grid that shows the one shows the other
shows_as : (f k : ℕ → Look) (s : Size) (t g h : Grid) → IsSound s t → ShowsSame s g t
    → IsPaintable k s h → same_screen f k s s g h ≡ true → ShowsSame s h t
shows_as f k s t g h old shows can all =
    let w = and_parts (same_cursor s s g h) (same_rows f k g.rows h.rows 0 s.rows) all in
    let c = and_parts (g.cursor.row == h.cursor.row && g.cursor.column == h.cursor.column)
    (beq (is_waiting s g) (is_waiting s h)) w.0 in
    let p = and_parts (g.cursor.row == h.cursor.row) (g.cursor.column == h.cursor.column) c.0 in
    let high : length g.rows ≡ length h.rows =
    sym (same_height t.rows g.rows shows.contents) ∙ old.rows.height ∙ sym can.sound.rows.height in
    let wide : AreWide s.columns g.rows =
    wide_as s.columns g.rows t.rows (sym shows.contents) old.rows.width in
    let rows : same_rows f k g.rows h.rows 0 (length h.rows) ≡ true =
    ap (same_rows f k g.rows h.rows 0) can.sound.rows.height ∙ w.1 in
    record {
      contents = shows.contents
          ∙ rows_same f k s.columns g.rows h.rows g.rows h.rows 0 refl refl wide
          can.sound.rows.width high rows;
      row = shows.row ∙ eqb-true g.cursor.row h.cursor.row p.0;
      column = shows.column ∙ eqb-true g.cursor.column h.cursor.column p.1;
      pending = shows.pending ∙ bool_is (is_waiting s g) (is_waiting s h) c.1;
    }

-- ---- laws

size_same : (s : Size) → same_size s s ≡ true
size_same s = both_same _ _ (number_same s.rows) (number_same s.columns)

by_size : (f k : ℕ → Look) (s : Size) (g h : Grid)
    → difference f k s s g h ≡ parts_text (change_parts f k s s g h)
by_size f k s g h =
    ap (λ t. if t then parts_text (change_parts f k s s g h) else painting_text k s h)
    (size_same s)

-- the parts are read, and lead there
abbrev Goes : (f k : ℕ → Look) → Size → Grid → Grid → Grid → List Part → Type 0
Goes f k s t g h ps = AllFit ps × ShowsSame s h (grid_from s t (map (part_step number) ps))

goes_by : (b : Bool) (f k : ℕ → Look) (s : Size) (t g h : Grid) → IsSound s t → AreWhole t.rows
    → ShowsSame s g t → IsPaintable k s h → same_screen f k s s g h ≡ b
    → Goes f k s t g h (if b then [] else soft_reset
    ∷ (rows_changes f k g.rows h.rows 0 s.rows ++ cursor_parts k s h))
goes_by true f k s t g h old whole shows can is = (tt, shows_as f k s t g h old shows can is)
goes_by false f k s t g h old whole shows can is =
    let e = led number same k s refl f t g h old.rows whole shows.contents can.whole can.drawn
    can.sound.rows can.sound.cursor in (
      led_fits k f s g.rows h can.sound.rows can.sound.cursor can.size.0 can.size.1 can.drawn
          can.plain,
      record {
        contents = e.shows;
        row = e.row;
        column = e.column;
        pending = e.pending;
      },
    )

pub leads_any : (A : Type 0) → MeansItsSegments A → Leads A
leads_any A means = λ f k s t g h old whole shows can.
    let ps = change_parts f k s s g h in
    let go = goes_by (same_screen f k s s g h) f k s t.grid g h old whole shows can refl in
    let meant : values_of A (difference f k s s g h) ≡ all_values (readings {A = A} ps) =
    ap (meaning_within {A = A} (Some 0x1000)) (by_size f k s g h ∙ sym (text_is A ps))
    ∙ texts_mean {A = A} means (Some 0x1000) (readings ps) (all_read A ps go.0) in
    let shown = ap (shown_after {A = A} s t) meant ∙ all_shown A s t ps number go.0 in
    let z = grid_from s t.grid (map (part_step number) ps) in
    let is : (shown_after s t (values_of A (difference f k s s g h))).grid ≡ z =
    ap (λ x. x.grid) shown in
    subst (ShowsSame s h) (sym is) go.1

-- ---- screens, one after another

abbrev series : (ℕ → Look) → Size → Grid → List ((ℕ → Look) × Grid) → List Part
series f s g [] = []
series f s g (h ∷ hs) = change_parts f h.0 s s g h.1 ++ series h.0 s h.1 hs

series_text : (f : ℕ → Look) (s : Size) (g : Grid) (hs : List ((ℕ → Look) × Grid))
    → differences f s g hs ≡ parts_text (series f s g hs)
series_text f s g [] = refl
series_text f s g (h ∷ hs) =
    let ps = change_parts f h.0 s s g h.1 in
    ap (λ z. z ++ differences h.0 s h.1 hs) (by_size f h.0 s g h.1)
    ∙ ap (λ z. parts_text ps ++ z) (series_text h.0 s h.1 hs)
    ∙ sym (parts_two ps (series h.0 s h.1 hs))

-- the parts of all are read, and lead to the last one
abbrev AllGo : (ℕ → Look) → Size → Grid → Grid → List ((ℕ → Look) × Grid) → Type 0
AllGo f s t g hs = AllFit (series f s g hs)
    × ShowsSame s (last_grid g hs) (grid_from s t (map (part_step number) (series f s g hs)))

all_go : (f : ℕ → Look) (s : Size) (t g : Grid) (hs : List ((ℕ → Look) × Grid)) → IsSound s t
    → HasWholeRows t → ShowsSame s g t → ArePaintable s hs → AllGo f s t g hs
all_go f s t g [] old whole shows can = (tt, shows)
all_go f s t g (h ∷ hs) old whole shows can =
    let k = h.0 in
    let ps = change_parts f k s s g h.1 in
    let qs = series k s h.1 hs in
    let first = goes_by (same_screen f k s s g h.1) f k s t g h.1 old whole.rows shows can.0 refl in
    let z = grid_from s t (map (part_step number) ps) in
    let rest = all_go k s z h.1 hs (stays_sound s t (map (part_step number) ps) old)
    (stays_whole s t (map (part_step number) ps) old whole) first.1 can.1 in (
      fit_two ps qs first.0 rest.0,
      subst (ShowsSame s (last_grid h.1 hs)) (sym (run_two number same k s t ps qs)) rest.1,
    )

pub leads_on : (A : Type 0) → MeansItsSegments A → LeadsOn A
leads_on A means = λ f s t g hs old whole shows can.
    let ps = series f s g hs in
    let go = all_go f s t.grid g hs old whole shows can in
    let meant : values_of A (differences f s g hs) ≡ all_values (readings {A = A} ps) =
    ap (meaning_within {A = A} (Some 0x1000)) (series_text f s g hs ∙ sym (text_is A ps))
    ∙ texts_mean {A = A} means (Some 0x1000) (readings ps) (all_read A ps go.0) in
    let shown = ap (shown_after {A = A} s t) meant ∙ all_shown A s t ps number go.0 in
    let z = grid_from s t.grid (map (part_step number) ps) in
    let is : (shown_after s t (values_of A (differences f s g hs))).grid ≡ z =
    ap (λ x. x.grid) shown in
    subst (ShowsSame s (last_grid g hs)) (sym is) go.1

-- ---- streams

pub leads_over : (A : Type 0) → Leads A → GoesOn A → IsAlwaysSound A → IsAlwaysWhole A
    → ((limit : Option ℕ) (s u b : List ℕ) → IsAfterFinished s u
    → yield_within {A = A} limit s b ≡ yield_within limit u b) → LeadsOver A
leads_over A lead on sound whole alone = λ f k s b g h ground shows can.
    let x = difference f k s s g h in
    let rows : 0 < s.rows = omega (arith, can.sound.cursor.row) in
    let columns : 0 < s.columns = omega (arith, can.sound.cursor.column) in
    let after : IsAfterFinished b [] =
    (ground.0, ground.1.whole ∙ sym (append-nil (joined_bytes ground.0)), ground.2) in
    let meant : yield_within {A = A} (Some 0x1000) b x ≡ values_of A x =
    alone (Some 0x1000) b [] x after ∙ yield_whole {A = A} (Some 0x1000) x in
    let t = shown_of A s b in
    let is : shown_of A s (b ++ x) ≡ shown_after s t (values_of A x) =
    on s b x ∙ ap (shown_after {A = A} s t) meant in
    subst (λ z. ShowsSame s h z.grid) (sym is)
    (lead f k s t g h (sound s b rows columns) (whole s b rows columns).rows shows can)

-- ---- a screen and itself

same_all : (f : ℕ → Look) (xss : List (List Cell)) (r n : ℕ) → same_rows f f xss xss r n ≡ true
same_all f xss r zero = refl
same_all f xss r (suc n) =
    let xs = get_or xss r [] in
    let all : nat_lt (length xs) (length xs) ≡ false = grind (arith, nat_tests) in
    let none : is_other f f xs xs ≡ false =
    ap (λ i. nat_lt i (length xs)) (all_same f xs) ∙ all in
    both_same _ _ (ap not none) (same_all f xss (r + 1) n)

pub says_nothing : SaysNothing
says_nothing = λ f s g.
    none_text f f s s g g (size_same s)
    (both_same _ _ (both_same _ _ (both_same _ _ (number_same g.cursor.row)
    (number_same g.cursor.column)) (bool_same (is_waiting s g)))
    (same_all f g.rows 0 s.rows))
