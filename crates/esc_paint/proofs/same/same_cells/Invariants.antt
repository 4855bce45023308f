use Rattle.std.proofs.Common.{ℕ, ◌≡◌, ◌+◌, drop}
use Rattle.esc_terminal.specs.Links.{known_look, known_of}
use Rattle.esc_paint.specs.Differences.{same_cells}
use Rattle.esc_paint.proofs.same.same_cells.Given as goal

-- with those of the cells that are left they are all
abbrev pub invariant-loop-i : goal.invariant-loop-i
invariant-loop-i g l =
    let f = λ (n : ℕ). known_look n (known_of l.from_styles) in
    let k = λ (n : ℕ). known_look n (known_of l.to_styles) in
    l.i + same_cells f k (drop l.i l.from) (drop l.i l.to) ≡ same_cells f k l.from l.to
