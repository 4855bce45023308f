-- The length of the rest of lines.
use Rattle.std.proofs.Common.{ℕ, zero, suc, ◌≡◌, ◌+◌, ◌*◌, ◌<◌, ◌≤◌, Bool, true, false, List, [], ◌∷◌, ◌++◌, length, take, if◌then◌else◌, ap, sym, subst, ◌∙◌, length-append, arith}
use Rattle.std.specs.List.{All}
use Rattle.std.proofs.Math.Nat.{suc-mul}
use Rattle.std.proofs.lemmas.List.{length-map, length-take}
use Rattle.std.proofs.lemmas.List.Elements.{All-append, All-cons, All-head, All-nil, All-tail}
use Rattle.esc_actions.specs.Values.{Value}
use Rattle.esc_screen.specs.Grids.{Grid, Size as Screen}
use Rattle.esc_screen.specs.Scrolled.{main_rows}
use Rattle.esc_screen.specs.Sound.{AreWide, IsFull, IsSound}
use Rattle.esc_screen.specs.declared.cell.Cell.{Cell}
use Rattle.esc_screen.proofs.Sound.CursorStaysInside.{wide_take}
use Rattle.esc_screen.proofs.Sound.StaysSound.{begins_sound}
use Rattle.esc_terminal.specs.Bounds.{AreLooks, IsRow as IsAcross, value_most}
use Rattle.esc_terminal.specs.Links.{Known}
use Rattle.esc_terminal.specs.Scrolled.{Row, off_after, with_known}
use Rattle.esc_terminal.specs.Streams.{first_shown}
use Rattle.esc_terminal.proofs.Bounds.{scrolls_few}
use Rattle.esc_terminal.proofs.Streams.{stays_sound_after}
use Rattle.screen_lines.specs.Bounds.{IsRow, row_most}
use Rattle.screen_lines.specs.Parts.{first_out, first_room}
use Rattle.screen_lines.specs.Rows.{out_by_rows}
use Rattle.screen_lines.proofs.Bounds.{are_bounded}
use Rattle.screen_lines.proofs.Growing.{rows_more, text_after}
use Rattle.line_collapse.specs.Bounds.{IsBounded, rows_most}
use Rattle.line_collapse.specs.Streams.{count_seen, cursor_rows, final_out, left_of, left_rows, rows_left, shown_by_all}
use Rattle.line_collapse.specs.Windows.{Size, screen_of}

times_more : (r k m : ℕ) → k ≤ m → k * r ≤ m * r
times_more r zero m less = omega arith
times_more r (suc k) zero less = absurd (omega (arith, less))
times_more r (suc k) (suc m) less =
    let a = k * r in
    let b = m * r in
    let first : suc k * r ≡ a + r = suc-mul k r in
    let second : suc m * r ≡ b + r = suc-mul m r in
    let rest : a ≤ b = times_more r k m (omega (arith, less)) in
    omega (arith, first, second, rest)

-- rows of a screen are rows of as many cells
all_within : (s : Screen) (rs : List Row) → All (IsAcross s) rs → All (IsRow s.columns) rs
all_within s [] are = All-nil (IsRow s.columns)
all_within s (r ∷ rs) are =
    let h = All-head (IsAcross s) r rs are in
    let wide = h.0 in
    All-cons (IsRow s.columns) r rs (omega (arith, wide), h.1)
    (all_within s rs (All-tail (IsAcross s) r rs are))

across : (s : Screen) (k : Known) (rs : List (List Cell)) → AreLooks k.looks
    → AreWide s.columns rs → All (IsAcross s) (with_known k rs)
across s k [] are h = All-nil (IsAcross s)
across s k (r ∷ rs) are h =
    All-cons (IsAcross s) (r, k) (with_known k rs) (h.0, are) (across s k rs are h.1)

main_full : (s : Screen) (g : Grid) → IsSound s g → IsFull s (main_rows g)
main_full s g h = by g.alternate
  where
    by : (b : Bool) → IsFull s (if b then g.other else g.rows)
    by true = h.other
    by false = h.rows

-- the rows that are left are no more than the screen has
left_few : (s : Screen) (k : Known) (g : Grid) → IsSound s g → AreLooks k.looks
    → (length (with_known k (rows_left k g)) ≤ s.rows)
    × All (IsAcross s) (with_known k (rows_left k g))
left_few s k g h are =
    let n = count_seen k (cursor_rows g) 0 (main_rows g) in
    let full = main_full s g h in
    let few = length-take n (main_rows g) in
    let same : length (with_known k (rows_left k g)) ≡ length (rows_left k g) =
    length-map {B = Row} (rows_left k g) (λ r. (r, k)) in
    let high = full.height in (
      omega (arith, few, same, high),
      across s k (rows_left k g) are (wide_take s.columns n (main_rows g) full.width),
    )

pub is_bounded : (A : Type 0) → IsBounded A
is_bounded A = λ z vs.
    let s = screen_of z in
    let first = first_shown s in
    let t = shown_by_all z vs in
    let off = off_after s first vs in
    let left = left_rows t in
    let sound = begins_sound s (omega arith) (omega arith) in
    let few = scrolls_few A s vs (omega arith) (omega arith) in
    let rest = left_few s t.known t.grid (stays_sound_after s first vs sound) few.2 in
    let m = length vs * value_most s in
    let off_rows : length off ≤ m = few.0 in
    let left_number : length left ≤ s.rows = rest.0 in
    let both = length-append off left in
    let all : length (off ++ left) ≤ m + s.rows = omega (arith, off_rows, left_number, both) in
    let o = first_out z.characters in
    let bound = are_bounded s.columns z.characters (off ++ left)
    (all_within s (off ++ left) (All-append (IsAcross s) off left few.1 rest.1)) in
    let more = times_more (row_most s.columns) (length (off ++ left)) (rows_most z (length vs))
    all in
    let same : length (out_by_rows o (off ++ left)).text ≡ length (left_of z vs) =
    ap (λ x. length x.text) (rows_more o off left) ∙ ap length (text_after (final_out z vs) left) in
    omega (arith, bound, more, same)
