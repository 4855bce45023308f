-- A log of plain text is what it scrolls off and what it leaves.
use Rattle.std.proofs.Common.{ℕ, suc, ◌≡◌, ◌+◌, ◌-◌, ◌==◌, ◌<◌, ◌≤◌, min, max, nat_lt, Bool, true, false, inl, inr, ◌&&◌, ◌||◌, List, [], ◌∷◌, ◌++◌, length, map, set, take, drop, replicate, if◌then◌else◌, refl, ap, sym, subst, ◌∙◌, append_assoc, append-nil, length-append, arith}
use Rattle.std.proofs.lemmas.Bool.{cases_Bool}
use Rattle.std.proofs.lemmas.Bool.Decides.{nat_tests}
use Rattle.std.proofs.lemmas.List.{drop_all, get_or_at, length-map, length-replicate, length_push, map-append, set_at, take_all}
use Rattle.esc_screen.specs.Cells.{blank, blank_row, cleared_cells, inserted_cells, put_all}
use Rattle.esc_screen.specs.Changes.{next_row}
use Rattle.esc_screen.specs.Cursors.{at, home, landed_cursor}
use Rattle.esc_screen.specs.Grids.{Grid, Size, first_grid, in_row, line_fed, grid_at, rows_up, settled_grid, with_cursor}
use Rattle.esc_screen.specs.Lists.{in_part, moved_up}
use Rattle.esc_screen.specs.Logs.{KeepsLog, log_of}
use Rattle.esc_screen.specs.Paints.{AllFit, plain_cell, row_of}
use Rattle.esc_screen.specs.Printing.{row_gone_on, narrow_printed, narrow_put, grid_with_room, grid_past}
use Rattle.esc_screen.specs.Scrolled.{gone_fed, gone_up, off_from}
use Rattle.esc_screen.specs.Steps.{grid_by, grid_from}
use Rattle.esc_screen.specs.declared.cell.Cell.{Cell}
use Rattle.esc_screen.specs.declared.change.Change.TheVariants as change
use Rattle.esc_screen.specs.declared.cursor.Cursor.{Cursor}
use Rattle.esc_screen.specs.declared.motion.Motion.TheVariants as motion
use Rattle.esc_screen.specs.declared.step.Step.{Step}
use Rattle.esc_screen.specs.declared.step.Step.TheVariants as step
use Rattle.esc_screen.proofs.Printing.PaintedRowsShow.{put_blank}
use Rattle.esc_screen.proofs.Printing.RunsOfCharacters.{in_chunks, landed_in, not_wrapped, run_is}
use Rattle.esc_screen.proofs.Scrolled.RowsScrolledOff.{off_in_chunks}

-- ---- characters that the row has columns for scroll nothing off

opened_cursor : (s : Size) (n : ℕ) (g : Grid) → (grid_with_room s n g).cursor ≡ g.cursor
opened_cursor s n g = by_test g.modes.inserts
  where
    by_test : (b : Bool)
        → (if b then in_row (inserted_cells g.cursor.erased n g.cursor.column s.columns) g
        else g).cursor ≡ g.cursor
    by_test true = refl
    by_test false = refl

next_cursor : (s : Size) (c : ℕ) (g : Grid) → g.cursor.pending ≡ false
    → g.cursor.column + 1 < s.columns
    → (narrow_printed s c g).cursor ≡ record (g.cursor) { column = g.cursor.column + 1 }
next_cursor s c g ready next =
    let o = grid_with_room s 1 g in
    ap (λ z. (narrow_put s c z).cursor) (not_wrapped s g ready)
    ∙ ap (λ k. landed_cursor s.columns o.modes.wraps (k.column + 1) k) (opened_cursor s 1 g)
    ∙ landed_in s o.modes.wraps (g.cursor.column + 1) g next

none_from : (s : Size) (c : ℕ) (cs : List ℕ) (g : Grid) → g.cursor.pending ≡ false
    → g.cursor.column + length (c ∷ cs) ≤ s.columns → off_from s g (map step.Print (c ∷ cs)) ≡ []
none_from s c [] g ready fits =
    ap (λ b. (take (if b && g.modes.wraps then gone_fed g else 0)
    (if b && g.modes.wraps then row_gone_on g else g).rows ++ []) ++ []) ready
none_from s c (d ∷ ds) g ready fits =
    let h = narrow_printed s c g in
    let is = next_cursor s c g ready (omega (arith, fits)) in
    let column : h.cursor.column ≡ g.cursor.column + 1 = ap (λ k. k.column) is in
    ap (λ b. (take (if b && g.modes.wraps then gone_fed g else 0)
    (if b && g.modes.wraps then row_gone_on g else g).rows ++ [])
    ++ off_from s h (map step.Print (d ∷ ds))) ready
    ∙ none_from s d ds h (ap (λ k. k.pending) is ∙ ready) (omega (arith, fits, column))

none_off : (s : Size) (g : Grid) (cs : List ℕ) → g.cursor.pending ≡ false
    → g.cursor.column + length cs ≤ s.columns → off_from s g (map step.Print cs) ≡ []
none_off s g [] ready fits = refl
none_off s g (c ∷ cs) ready fits = none_from s c cs g ready fits

-- ---- pages

-- lines, and so many blank rows
abbrev full : Size → List (List ℕ) → ℕ → List (List Cell)
full s bs k = map (row_of s) bs ++ replicate k (blank_row 0 s.columns)

-- a screen with these rows, where the cursor is in the first column of a row
abbrev at_row : Size → List (List Cell) → ℕ → Grid
at_row s rs i = record (first_grid s) {
  rows = rs;
  cursor = at i 0 home;
}

-- a screen with these lines, where the cursor is in the row after them
abbrev page : Size → List (List ℕ) → Grid
page s bs = at_row s (full s bs (s.rows - length bs)) (length bs)

-- to the first column, wherever the last character is
started : (s : Size) (n : ℕ) (h : Grid)
    → grid_at (grid_past s n h).cursor.row 0 (grid_past s n h) ≡ grid_at h.cursor.row 0 h
started s n h = by_test (nat_lt (h.cursor.column + n) s.columns)
  where
    as_passed : Bool → Cursor
    as_passed b = if b then record (h.cursor) { column = h.cursor.column + n }
        else record (h.cursor) { column = s.columns - 1; pending = h.modes.wraps }

    by_test : (b : Bool) → with_cursor (at (as_passed b).row 0 (as_passed b)) h
        ≡ grid_at h.cursor.row 0 h
    by_test true = refl
    by_test false = refl

one_more : (s : Size) (bs : List (List ℕ)) (cs : List ℕ) (k : ℕ)
    → map (row_of s) bs ++ row_of s cs ∷ replicate k (blank_row 0 s.columns)
    ≡ full s (bs ++ cs ∷ []) k
one_more s bs cs k =
    let below = replicate k (blank_row 0 s.columns) in
    sym (append_assoc (map (row_of s) bs) (row_of s cs ∷ []) below)
    ∙ ap (λ z. z ++ below) (sym (map-append (row_of s) bs (cs ∷ [])))

-- the characters of a line, and CR
typed : (s : Size) (bs : List (List ℕ)) (cs : List ℕ) (k : ℕ) → length cs ≤ s.columns
    → grid_by s (grid_from s (at_row s (full s bs (suc k)) (length bs)) (map step.Print cs))
    (step.Move motion.RowStart)
    ≡ at_row s (full s (bs ++ cs ∷ []) k) (length bs)
typed s bs [] k fits =
    let all : s.columns ≡ s.columns - 0 = omega arith in
    let below = replicate k (blank_row 0 s.columns) in
    ap (λ rs. at_row s rs (length bs))
    (ap (λ n. map (row_of s) bs ++ blank_row 0 n ∷ below) all ∙ one_more s bs [] k)
typed s bs (c ∷ cs) k fits =
    let i = length bs in
    let b = blank_row 0 s.columns in
    let below = replicate k b in
    let above = map (row_of s) bs in
    let g = at_row s (full s bs (suc k)) i in
    let put = put_all 0 0 (c ∷ cs) in
    let len : length above ≡ i = length-map bs (row_of s) in
    ap (λ z. grid_by s z (step.Move motion.RowStart))
    (run_is s (c ∷ cs) g refl refl (omega arith) (omega (arith, fits)))
    ∙ started s (length (c ∷ cs)) (in_row put g)
    ∙ ap (λ rs. at_row s rs i)
    (ap (λ z. set (above ++ b ∷ below) i (put z)) (get_or_at above b below [] i len)
    ∙ ap (set (above ++ b ∷ below) i) (put_blank 0 s.columns (c ∷ cs) [] refl fits)
    ∙ set_at above b below (row_of s (c ∷ cs)) i len
    ∙ one_more s bs (c ∷ cs) k)

-- ---- line feeds

-- from the first column, whether a line feed returns or not
fed_first : (s : Size) (i : ℕ) (rs : List (List Cell))
    → grid_by s (at_row s rs i) (step.Edit change.LineFeed) ≡ line_fed s (at_row s rs i)
fed_first s i rs = by_test s.returns
  where
    g : Grid
    g = at_row s rs i

    as_fed : Bool → Grid
    as_fed t = if t then rows_up 1 0 s.rows (settled_grid g)
        else grid_at (min (i + 1) (s.rows - 1)) 0 g

    either : (t : Bool) → grid_at (as_fed t).cursor.row 0 (as_fed t) ≡ as_fed t
    either true = refl
    either false = refl

    by_test : (b : Bool) → next_row s (b || false) g ≡ line_fed s g
    by_test false = refl
    by_test true = either (i + 1 == s.rows)

-- where there is a row below
fed_within : (s : Size) (i : ℕ) (rs : List (List Cell)) → i + 1 < s.rows
    → (gone_fed (at_row s rs i) ≡ 0)
    × (grid_by s (at_row s rs i) (step.Edit change.LineFeed) ≡ at_row s rs (i + 1))
fed_within s i rs less =
    let g = at_row s rs i in
    let test : (i + 1 == s.rows) ≡ false = grind (arith, nat_tests, less) in
    let to : min (i + 1) (s.rows - 1) ≡ i + 1 = omega (arith, less) in (
      ap (λ b. if b then gone_up 1 g else 0) test,
      fed_first s i rs ∙ ap (λ b. if b then rows_up 1 0 s.rows (settled_grid g)
          else grid_at (min (i + 1) (s.rows - 1)) 0 g) test
          ∙ ap (λ r. at_row s rs r) to,
    )

-- the first row after all others
up_one : {X : Type 0} (n : ℕ) (x : X) (xs : List X) (f : List X → List X)
    → length (x ∷ xs) ≡ n → in_part 0 n (moved_up 1 f) (x ∷ xs) ≡ xs ++ f (x ∷ [])
up_one n x xs f e =
    let ys = x ∷ xs in
    let all : n - 0 ≡ n = omega arith in
    let few : length ys ≤ n = omega (arith, e) in
    ap (λ k. moved_up 1 f (take k ys) ++ drop k ys) all
    ∙ ap (λ z. moved_up 1 f z ++ drop n ys) (take_all n ys few)
    ∙ ap (λ z. moved_up 1 f ys ++ z) (drop_all n ys few)
    ∙ append-nil (moved_up 1 f ys)

wide_row : (s : Size) (cs : List ℕ) → length cs ≤ s.columns
    → cleared_cells 0 (row_of s cs) ≡ blank_row 0 s.columns
wide_row s cs fits =
    let k = s.columns - length cs in
    let all : length cs + k ≡ s.columns = omega (arith, fits) in
    ap (λ n. replicate n (blank 0))
    (length-append (map plain_cell cs) (blank_row 0 k)
    ∙ ap (λ n. n + length (blank_row 0 k)) (length-map cs plain_cell)
    ∙ ap (λ n. length cs + n) (length-replicate k (blank 0)) ∙ all)

-- in the last row: the first one goes off
fed_last : (s : Size) (i : ℕ) (d : List ℕ) (ds : List (List ℕ)) → length ds ≡ i
    → i + 1 ≡ s.rows → length d ≤ s.columns
    → (gone_fed (at_row s (full s (d ∷ ds) 0) i) ≡ 1)
    × (grid_by s (at_row s (full s (d ∷ ds) 0) i) (step.Edit change.LineFeed)
    ≡ at_row s (full s ds 1) i)
fed_last s i d ds len last fits =
    let f = map (cleared_cells 0) in
    let x = row_of s d in
    let xs = map (row_of s) ds ++ [] in
    let g = at_row s (x ∷ xs) i in
    let test : (i + 1 == s.rows) ≡ true = grind (arith, nat_tests, last) in
    let one : min 1 s.rows ≡ 1 = omega (arith, last) in
    let none = append-nil (map (row_of s) ds) in
    let same = length-map ds (row_of s) in
    let many : length (x ∷ xs) ≡ s.rows =
    ap (λ n. suc (length n)) none ∙ ap (λ n. suc n) same ∙ omega (arith, len, last) in (
      ap (λ b. if b then min 1 s.rows else 0) test ∙ one,
      fed_first s i (x ∷ xs) ∙ ap (λ b. if b then rows_up 1 0 s.rows (settled_grid g)
          else grid_at (min (i + 1) (s.rows - 1)) 0 g) test
          ∙ ap (λ rs. at_row s rs i) (up_one s.rows x xs f many
          ∙ ap (λ z. z ++ cleared_cells 0 x ∷ []) none
          ∙ ap (λ z. map (row_of s) ds ++ z ∷ []) (wide_row s d fits)),
    )

-- ---- lines, one after another

-- the rows that are scrolled off and the rows that are left
abbrev history : Size → Grid → List Step → List (List Cell)
history s g xs = off_from s g xs ++ (grid_from s g xs).rows

-- lines, and blank rows: one at least
abbrev logged : Size → List (List ℕ) → List (List Cell)
logged s bs = full s bs (max 1 (s.rows - length bs))

fit_push : (s : Size) (bs : List (List ℕ)) (cs : List ℕ) → AllFit s bs → length cs ≤ s.columns
    → AllFit s (bs ++ cs ∷ [])
fit_push s [] cs fit fits = (fits, omega arith)
fit_push s (b ∷ bs) cs fit fits = (fit.0, fit_push s bs cs fit.1 fits)

first_of : (bs : List (List ℕ)) (cs : List ℕ)
    → (d : List ℕ) × (ds : List (List ℕ)) × (bs ++ cs ∷ [] ≡ d ∷ ds)
first_of [] cs = (cs, [], refl)
first_of (b ∷ bs) cs = (b, bs ++ cs ∷ [], refl)

-- the rows that a line feed after these rows scrolls off, and those that scroll off after it
abbrev fed_on : Size → ℕ → List Step → List (List Cell) → List (List Cell)
fed_on s i ys rs = take (gone_fed (at_row s rs i)) rs
    ++ history s (grid_by s (at_row s rs i) (step.Edit change.LineFeed)) ys

-- a line, and CR and LF after it
line_logged : (s : Size) (bs : List (List ℕ)) (cs : List ℕ) (ys : List Step) (k : ℕ)
    → length cs ≤ s.columns
    → history s (at_row s (full s bs (suc k)) (length bs)) (map step.Print cs
    ++ (step.Move motion.RowStart ∷ step.Edit change.LineFeed ∷ ys))
    ≡ fed_on s (length bs) ys (full s (bs ++ cs ∷ []) k)
line_logged s bs cs ys k fits =
    let g = at_row s (full s bs (suc k)) (length bs) in
    let h = at_row s (full s (bs ++ cs ∷ []) k) (length bs) in
    let ps = map step.Print cs in
    let zs = step.Move motion.RowStart ∷ step.Edit change.LineFeed ∷ ys in
    let j = grid_from s g ps in
    let off = take (gone_fed h) h.rows in
    let n = grid_by s h (step.Edit change.LineFeed) in
    ap (λ z. z ++ (grid_from s g (ps ++ zs)).rows) (off_in_chunks s g ps zs)
    ∙ ap (λ z. (off_from s g ps ++ off_from s j zs) ++ z.rows) (in_chunks s g ps zs)
    ∙ ap (λ z. (z ++ off_from s j zs) ++ (grid_from s j zs).rows)
    (none_off s g cs refl (omega (arith, fits)))
    ∙ ap (λ z. off_from s z (step.Edit change.LineFeed ∷ ys)
    ++ (grid_from s z (step.Edit change.LineFeed ∷ ys)).rows) (typed s bs cs k fits)
    ∙ ap (λ z. (z ++ off_from s n ys) ++ (grid_from s n ys).rows) (append-nil off)
    ∙ append_assoc off (off_from s n ys) (grid_from s n ys).rows

on_within : (s : Size) (i : ℕ) (ys : List Step) (rs : List (List Cell)) → i + 1 < s.rows
    → fed_on s i ys rs ≡ history s (at_row s rs (i + 1)) ys
on_within s i ys rs less =
    let k = fed_within s i rs less in
    ap (λ n. take n rs
    ++ history s (grid_by s (at_row s rs i) (step.Edit change.LineFeed)) ys) k.0
    ∙ ap (λ z. history s z ys) k.1

on_last : (s : Size) (i : ℕ) (ys : List Step) (d : List ℕ) (ds : List (List ℕ)) → length ds ≡ i
    → i + 1 ≡ s.rows → length d ≤ s.columns
    → fed_on s i ys (full s (d ∷ ds) 0) ≡ row_of s d ∷ history s (page s ds) ys
on_last s i ys d ds len last fits =
    let rs = full s (d ∷ ds) 0 in
    let k = fed_last s i d ds len last fits in
    let one : 1 ≡ s.rows - length ds = omega (arith, len, last) in
    ap (λ n. take n rs
    ++ history s (grid_by s (at_row s rs i) (step.Edit change.LineFeed)) ys) k.0
    ∙ ap (λ z. row_of s d ∷ history s z ys) k.1
    ∙ ap (λ n. row_of s d ∷ history s (at_row s (full s ds n) i) ys) one
    ∙ ap (λ j. row_of s d ∷ history s (at_row s (full s ds (s.rows - length ds)) j) ys) (sym len)

-- as many blank rows, where a line more is gone
one_gone : (s : Size) (d : List ℕ) (es : List (List ℕ)) → s.rows ≤ suc (length es)
    → row_of s d ∷ logged s es ≡ logged s (d ∷ es)
one_gone s d es many =
    let one : max 1 (s.rows - length es) ≡ max 1 (s.rows - suc (length es)) =
    omega (arith, many) in
    ap (full s (d ∷ es)) one

-- a line more, where all is known of what comes after it
abbrev IsLogged : Size → List (List ℕ) → List (List ℕ) → Type 0
IsLogged s css ds = length ds < s.rows → AllFit s ds
    → history s (page s ds) (log_of css) ≡ logged s (ds ++ css)

within_logged : (s : Size) (css bs : List (List ℕ)) (cs : List ℕ) → length bs + 1 < s.rows
    → AllFit s (bs ++ cs ∷ []) → IsLogged s css (bs ++ cs ∷ [])
    → fed_on s (length bs) (log_of css) (full s (bs ++ cs ∷ []) (s.rows - (length bs + 1)))
    ≡ logged s ((bs ++ cs ∷ []) ++ css)
within_logged s css bs cs next fit later =
    let ds = bs ++ cs ∷ [] in
    let len : length ds ≡ length bs + 1 = length_push bs cs in
    on_within s (length bs) (log_of css) (full s ds (s.rows - (length bs + 1))) next
    ∙ ap (λ n. history s (at_row s (full s ds (s.rows - n)) n) (log_of css)) (sym len)
    ∙ later (omega (arith, len, next)) fit

last_logged : (s : Size) (css bs : List (List ℕ)) (cs : List ℕ) → length bs + 1 ≡ s.rows
    → AllFit s (bs ++ cs ∷ []) → ((ds : List (List ℕ)) → IsLogged s css ds)
    → fed_on s (length bs) (log_of css) (full s (bs ++ cs ∷ []) (s.rows - (length bs + 1)))
    ≡ logged s ((bs ++ cs ∷ []) ++ css)
last_logged s css bs cs end fit later =
    let ds = bs ++ cs ∷ [] in
    let k = first_of bs cs in
    let d = k.0 in
    let es = k.1 in
    let is = k.2 in
    let none : s.rows - (length bs + 1) ≡ 0 = omega (arith, end) in
    let same : length ds ≡ suc (length es) = ap length is in
    let len : length es ≡ length bs = omega (arith, length_push bs cs, same) in
    let both = subst (AllFit s) is fit in
    let many : s.rows ≤ suc (length (es ++ css)) =
    omega (arith, len, end, length-append es css) in
    ap (fed_on s (length bs) (log_of css)) (ap (full s ds) none ∙ ap (λ z. full s z 0) is)
    ∙ on_last s (length bs) (log_of css) d es len end both.0
    ∙ ap (λ z. row_of s d ∷ z) (later es (omega (arith, len, end)) both.1)
    ∙ one_gone s d (es ++ css) many
    ∙ ap (λ z. logged s (z ++ css)) (sym is)

by_place : (s : Size) (css bs : List (List ℕ)) (cs : List ℕ) → length bs < s.rows
    → AllFit s (bs ++ cs ∷ []) → ((ds : List (List ℕ)) → IsLogged s css ds)
    → fed_on s (length bs) (log_of css) (full s (bs ++ cs ∷ []) (s.rows - (length bs + 1)))
    ≡ logged s ((bs ++ cs ∷ []) ++ css)
by_place s css bs cs less fit later =
    elim (cases_Bool (nat_lt (length bs + 1) s.rows)) [
      | inl held ↦
          let next : length bs + 1 < s.rows = grind (arith, nat_tests) in
          within_logged s css bs cs next fit (later (bs ++ cs ∷ []))
      | inr failed ↦
          let end : length bs + 1 ≡ s.rows = grind (arith, nat_tests, less) in
          last_logged s css bs cs end fit later
    ]

one_logged : (s : Size) (css bs : List (List ℕ)) (cs : List ℕ) → length bs < s.rows
    → AllFit s bs → length cs ≤ s.columns → ((ds : List (List ℕ)) → IsLogged s css ds)
    → history s (page s bs) (log_of (cs ∷ css)) ≡ logged s (bs ++ cs ∷ css)
one_logged s css bs cs less fit fits later =
    let i = length bs in
    let some : s.rows - i ≡ suc (s.rows - (i + 1)) = omega (arith, less) in
    ap (λ n. history s (at_row s (full s bs n) i) (log_of (cs ∷ css))) some
    ∙ line_logged s bs cs (log_of css) (s.rows - (i + 1)) fits
    ∙ by_place s css bs cs less (fit_push s bs cs fit fits) later
    ∙ ap (logged s) (append_assoc bs (cs ∷ []) css)

all_logged : (s : Size) (css bs : List (List ℕ)) → AllFit s css → IsLogged s css bs
all_logged s [] bs fits less fit =
    let some : s.rows - length bs ≡ max 1 (s.rows - length bs) = omega (arith, less) in
    ap (full s bs) some ∙ ap (logged s) (sym (append-nil bs))
all_logged s (cs ∷ css) bs fits less fit =
    one_logged s css bs cs less fit fits.0 (λ ds. all_logged s css ds fits.1)

pub keeps_log : KeepsLog
keeps_log s css some fits =
    let all : s.rows ≡ s.rows - 0 = omega arith in
    ap (λ n. history s (at_row s (replicate n (blank_row 0 s.columns)) 0) (log_of css)) all
    ∙ all_logged s css [] fits some (omega arith)
