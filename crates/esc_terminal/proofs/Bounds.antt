-- The number of the rows that values scroll off, and their width.
use Rattle.std.proofs.Common.{ℕ, zero, suc, ◌≡◌, ◌+◌, ◌*◌, ◌<◌, ◌≤◌, ◌==◌, ◌&&◌, min, nat_lt, Bool, true, false, List, [], ◌∷◌, ◌++◌, length, map, take, replicate, Option, None, Some, if◌then◌else◌, refl, ap, sym, subst, ◌∙◌, append-nil, length-append, arith}
use Rattle.std.specs.List.{All}
use Rattle.std.proofs.Math.Nat.{suc-mul}
use Rattle.std.proofs.lemmas.List.{length-map, length-replicate, length-take}
use Rattle.std.proofs.lemmas.List.Elements.{All-append, All-cons, All-nil}
use Rattle.esc_actions.specs.Values.{Value, print, string, control, esc, csi, osc, kitty, sixel, termcap, short, enter, datum, exit}
use Rattle.esc_sequences.specs.Csis.{CsiValue}
use Rattle.typed_functions.specs.Escapes.{of_escape}
use Rattle.typed_functions.specs.Functions.{Value as Function, of_csi}
use Rattle.esc_screen.specs.Grids.{Grid, Size}
use Rattle.esc_screen.specs.Printing.{before, has_room, row_gone_on}
use Rattle.esc_screen.specs.Scrolled.{gone_by, gone_fed, gone_up, gone_wide, gone_wrapped, is_open, joined_by, joined_narrow, joined_wide, off_by, off_each, off_from, printing}
use Rattle.esc_screen.specs.Sound.{AreWide, IsSound}
use Rattle.esc_screen.specs.Steps.{grid_by, grid_from}
use Rattle.esc_screen.specs.declared.cell.Cell.{Cell}
use Rattle.esc_screen.specs.declared.content.Content.{Content}
use Rattle.esc_screen.specs.declared.content.Content.TheVariants as content
use Rattle.esc_screen.specs.declared.cursor.Cursor.{Cursor as Place}
use Rattle.esc_screen.specs.declared.step.Step.{Step}
use Rattle.esc_screen.specs.declared.step.Step.TheVariants as step
use Rattle.esc_screen.proofs.Sound.CursorStaysInside.{wide_append, wide_take}
use Rattle.esc_screen.proofs.Sound.StaysSound.{begins_sound, sound_by, sound_joined, stays_sound}
use Rattle.esc_terminal.specs.Bounds.{AreLooks, IsRow, ScrollsFew, value_most}
use Rattle.esc_terminal.specs.Links.{Known, Target, lead_in}
use Rattle.esc_terminal.specs.Scrolled.{Row, off_after, off_by_value, with_known}
use Rattle.esc_terminal.specs.Steps.{csi_step, csi_steps, function_steps, lead_steps, one_step, steps_of}
use Rattle.esc_terminal.specs.Streams.{Shown, first_shown, shown_after, shown_by}
use Rattle.esc_terminal.proofs.Colors.{by_value}
use Rattle.esc_terminal.proofs.Handed.{function_off, one_is}
use Rattle.esc_terminal.proofs.RectangleSteps.{same_off, still_csi}

-- ---- a step

-- so few rows, each of so many cells
abbrev IsFew : Size → ℕ → List (List Cell) → Type 0
IsFew s n rs = (length rs ≤ n) × AreWide s.columns rs

no_rows : (s : Size) (n : ℕ) → IsFew s n []
no_rows s n = (omega arith, omega arith)

both_few : (s : Size) (m n : ℕ) (xs ys : List (List Cell)) → IsFew s m xs → IsFew s n ys
    → IsFew s (m + n) (xs ++ ys)
both_few s m n xs ys h k =
    let all = length-append xs ys in
    (omega (arith, all, h.0, k.0), wide_append s.columns xs ys h.1 k.1)

more_few : (s : Size) (m n : ℕ) (xs : List (List Cell)) → m ≤ n → IsFew s m xs → IsFew s n xs
more_few s m n xs less h = (omega (arith, less, h.0), h.1)

joined_if : (b : Bool) (s : Size) (g h : Grid) → IsSound s g → IsSound s h
    → IsSound s (if b then g else h)
joined_if true s g h a b = a
joined_if false s g h a b = b

sound_narrow : (s : Size) (g : Grid) → IsSound s g → IsSound s (joined_narrow g)
sound_narrow s g h =
    joined_if (g.cursor.pending && g.modes.wraps) s (row_gone_on g) g (sound_joined s g h) h

sound_joined_by : (s : Size) (g : Grid) (x : Step) → IsSound s g → IsSound s (joined_by s g x)
sound_joined_by s g (step.Print c) h = sound_narrow s g h
sound_joined_by s g (step.PrintWide c) h =
    joined_if (has_room s g) s _ g (joined_if (nat_lt (g.cursor.column + 1) s.columns) s
    (joined_narrow g) (row_gone_on g) (sound_narrow s g h) (sound_joined s g h)) h
sound_joined_by s g (step.Mark c) h = h
sound_joined_by s g (step.Repeat n) h = h
sound_joined_by s g (step.Move m) h = h
sound_joined_by s g (step.Edit e) h = h
sound_joined_by s g (step.Set x) h = h
sound_joined_by s g step.Nothing h = h

-- the first rows of a grid
taken_few : (s : Size) (n k : ℕ) (g : Grid) → n ≤ k → IsSound s g → IsFew s k (take n g.rows)
taken_few s n k g less h =
    let all = length-take n g.rows in
    (omega (arith, all, less), wide_take s.columns n g.rows h.rows.width)

-- those of the screen at most
step_few : (s : Size) (g : Grid) (x : Step) → IsSound s g
    → IsFew s s.rows (take (gone_by s g x) (joined_by s g x).rows ++ [])
step_few s g x h =
    let j = joined_by s g x in
    let k = sound_joined_by s g x h in
    let all = length-take (gone_by s g x) j.rows in
    let high = k.rows.height in
    subst (IsFew s s.rows) (sym (append-nil (take (gone_by s g x) j.rows)))
    (omega (arith, all, high), wide_take s.columns (gone_by s g x) j.rows k.rows.width)

-- ---- a character that is repeated

gone_one : (b : Bool) (g : Grid) → (if b then min 1 g.bottom else 0) ≤ 1
gone_one true g = omega arith
gone_one false g = omega arith

fed_one : (g : Grid) → gone_fed g ≤ 1
fed_one g = by (g.cursor.row + 1 == g.bottom)
  where
    by : (b : Bool) → (if b then gone_up 1 g else 0) ≤ 1
    by true = gone_one (is_open g) g
    by false = omega arith

wrapped_one : (g : Grid) → gone_wrapped g ≤ 1
wrapped_one g = by (g.cursor.pending && g.modes.wraps)
  where
    by : (b : Bool) → (if b then gone_fed g else 0) ≤ 1
    by true = fed_one g
    by false = omega arith

wide_one : (s : Size) (g : Grid) → gone_wide s g ≤ 1
wide_one s g = by (has_room s g) (nat_lt (g.cursor.column + 1) s.columns)
  where
    by : (a b : Bool) → (if a then if b then gone_wrapped g else gone_fed g else 0) ≤ 1
    by true true = wrapped_one g
    by true false = fed_one g
    by false b = omega arith

printed_one : (s : Size) (g : Grid) (c : Content) → gone_by s g (printing c) ≤ 1
printed_one s g content.Blank = omega arith
printed_one s g (content.Narrow c m) = wrapped_one g
printed_one s g (content.Wide c m) = wide_one s g
printed_one s g content.Rest = omega arith

repeated_few : (s : Size) (c : Content) (n : ℕ) (g : Grid) → IsSound s g
    → IsFew s n (off_each s g (replicate n (printing c)))
repeated_few s c zero g h = no_rows s 0
repeated_few s c (suc n) g h =
    let x = printing c in
    let one = taken_few s (gone_by s g x) 1 (joined_by s g x) (printed_one s g c)
    (sound_joined_by s g x h) in
    more_few s (1 + n) (suc n) _ (omega arith)
    (both_few s 1 n (take (gone_by s g x) (joined_by s g x).rows)
    (off_each s (grid_by s g x) (replicate n x)) one
    (repeated_few s c n (grid_by s g x) (sound_by s g x h)))

-- ---- values

any_few : (s : Size) (g : Grid) (x : Step) → IsSound s g → IsFew s (value_most s) (off_by s g x)
any_few s g (step.Print c) h =
    more_few s s.rows (value_most s) _ (omega arith) (step_few s g (step.Print c) h)
any_few s g (step.PrintWide c) h =
    more_few s s.rows (value_most s) _ (omega arith) (step_few s g (step.PrintWide c) h)
any_few s g (step.Mark c) h = no_rows s (value_most s)
any_few s g (step.Repeat n) h =
    let less : min n s.columns ≤ value_most s = omega arith in
    more_few s (min n s.columns) (value_most s) _ less
    (repeated_few s (before g) (min n s.columns) g h)
any_few s g (step.Move m) h = no_rows s (value_most s)
any_few s g (step.Edit e) h =
    more_few s s.rows (value_most s) _ (omega arith) (step_few s g (step.Edit e) h)
any_few s g (step.Set x) h = no_rows s (value_most s)
any_few s g step.Nothing h = no_rows s (value_most s)

one_few : (s : Size) (g : Grid) (x : Step) → IsSound s g
    → IsFew s (value_most s) (off_from s g (x ∷ []))
one_few s g x h =
    subst (IsFew s (value_most s)) (sym (append-nil (off_by s g x))) (any_few s g x h)

function_few : (s : Size) (g : Grid) (ls : Known) (k : Place) (f : Function) → IsSound s g
    → IsFew s (value_most s) (off_from s g (function_steps ls k f))
function_few s g ls k f h = by (one_step k f) refl
  where
    by : (o : Option Step) → one_step k f ≡ o
        → IsFew s (value_most s) (off_from s g (function_steps ls k f))
    by None e =
        subst (IsFew s (value_most s)) (sym (function_off s g ls k f (sym e)))
        (no_rows s (value_most s))
    by (Some x) e =
        subst (λ xs. IsFew s (value_most s) (off_from s g xs)) (sym (one_is ls k f x e).0)
        (one_few s g x h)

csi_few : (s : Size) (g : Grid) (ls : Known) (k : Place) (c : CsiValue) → IsSound s g
    → IsFew s (value_most s) (off_from s g (csi_steps ls k c))
csi_few s g ls k c h =
    subst (IsFew s (value_most s))
    (sym (same_off s g (function_steps ls k (of_csi c)) (csi_step c) (still_csi c)))
    (function_few s g ls k (of_csi c) h)

lead_few : (s : Size) (g : Grid) (ls : Known) (k : Place) (o : Option (Option Target))
    → IsFew s (value_most s) (off_from s g (lead_steps k ls o))
lead_few s g ls k None = no_rows s (value_most s)
lead_few s g ls k (Some t) = no_rows s (value_most s)

steps_few : {A : Type 0} (s : Size) (g : Grid) (ls : Known) (k : Place) (v : Value A)
    → IsSound s g → IsFew s (value_most s) (off_from s g (steps_of ls k v))
steps_few s g ls k (print c) h = one_few s g _ h
steps_few s g ls k (control c) h = one_few s g _ h
steps_few s g ls k (esc e) h = function_few s g ls k (of_escape e) h
steps_few s g ls k (csi c) h = csi_few s g ls k c h
steps_few s g ls k (osc c) h = lead_few s g ls k (lead_in c)
steps_few s g ls k (string t) h = no_rows s (value_most s)
steps_few s g ls k (kitty i) h = no_rows s (value_most s)
steps_few s g ls k (sixel i) h = no_rows s (value_most s)
steps_few s g ls k (termcap ns) h = no_rows s (value_most s)
steps_few s g ls k (short t) h = no_rows s (value_most s)
steps_few s g ls k (enter e) h = no_rows s (value_most s)
steps_few s g ls k (datum b) h = no_rows s (value_most s)
steps_few s g ls k exit h = no_rows s (value_most s)

-- ---- rows

across : (z : Size) (k : Known) (rs : List (List Cell)) → AreLooks k.looks
    → AreWide z.columns rs → All (IsRow z) (with_known k rs)
across z k [] are h = All-nil (IsRow z)
across z k (r ∷ rs) are h =
    All-cons (IsRow z) (r, k) (with_known k rs) (h.0, are) (across z k rs are h.1)

value_few : {A : Type 0} (z : Size) (t : Shown) (v : Value A) → IsSound z t.grid
    → AreLooks t.known.looks
    → (length (off_by_value z t v) ≤ value_most z) × All (IsRow z) (off_by_value z t v)
value_few z t v h are =
    let rs = off_from z t.grid (steps_of t.known t.grid.cursor v) in
    let few = steps_few z t.grid t.known t.grid.cursor v h in
    let same : length (with_known t.known rs) ≡ length rs =
    length-map {B = Row} rs (λ r. (r, t.known)) in
    (omega (arith, same, few.0), across z t.known rs are few.1)

-- the rows of values, and the looks that are known then
abbrev pub AreFew : {A : Type 0} → Size → Shown → List (Value A) → Type 0
AreFew z t vs = (length (off_after z t vs) ≤ length vs * value_most z)
    × All (IsRow z) (off_after z t vs)
    × AreLooks (shown_after z t vs).known.looks

pub values_few : {A : Type 0} (z : Size) (t : Shown) (vs : List (Value A)) → IsSound z t.grid
    → AreLooks t.known.looks → AreFew z t vs
values_few z t [] h are = (omega arith, All-nil (IsRow z), are)
values_few z t (v ∷ vs) h are =
    let first = value_few z t v h are in
    let rest = values_few z (shown_by z t v) vs
    (stays_sound z t.grid (steps_of t.known t.grid.cursor v) h)
    (by_value t.known t.grid.cursor v are) in
    let m = length vs * value_most z in
    let all : suc (length vs) * value_most z ≡ m + value_most z =
    suc-mul (length vs) (value_most z) in
    let both = length-append (off_by_value z t v) (off_after z (shown_by z t v) vs) in (
      omega (arith, all, both, first.0, rest.0),
      All-append (IsRow z) (off_by_value z t v) (off_after z (shown_by z t v) vs) first.1
          rest.1,
      rest.2,
    )

pub scrolls_few : (A : Type 0) → ScrollsFew A
scrolls_few A = λ z vs rows columns.
    values_few z (first_shown z) vs (begins_sound z rows columns) ((tt, tt, tt), tt)
