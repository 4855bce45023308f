use Rattle.std.proofs.Common.{ℕ, ◌≡◌, ◌-◌}
use Rattle.esc_screen.specs.Screens.{grid_of, size_of}
use Rattle.esc_terminal.specs.Links.{known_look, known_of}
use Rattle.esc_paint.specs.Differences.{same_rows}
use Rattle.esc_paint.proofs.difference.has_same_rows.Given as goal

-- the rows that are left decide
abbrev pub invariant-loop-row : goal.invariant-loop-row
invariant-loop-row g l =
    let f = λ (n : ℕ). known_look n (known_of l.fn.from_styles) in
    let k = λ (n : ℕ). known_look n (known_of l.fn.to_styles) in
    let xss = (grid_of l.fn.from).rows in
    let yss = (grid_of l.fn.to).rows in
    let n = (size_of l.fn.to).rows in
    same_rows f k xss yss l.row (n - l.row) ≡ same_rows f k xss yss 0 n
