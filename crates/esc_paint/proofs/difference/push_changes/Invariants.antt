use Rattle.std.proofs.Common.{ℕ, ◌≡◌, ◌++◌, ◌-◌, string_bytes}
use Rattle.esc_screen.specs.Screens.{grid_of, size_of}
use Rattle.esc_terminal.specs.Links.{known_look, known_of}
use Rattle.esc_paint.specs.Differences.{rows_changes}
use Rattle.esc_paint.specs.Parts.{parts_text}
use Rattle.esc_paint.proofs.difference.push_changes.Given as goal

-- with the rest it is the text of all
abbrev pub invariant-loop-row : goal.invariant-loop-row
invariant-loop-row g l =
    let f = λ (n : ℕ). known_look n (known_of l.from_styles) in
    let k = λ (n : ℕ). known_look n (known_of l.to_styles) in
    let xss = (grid_of l.from).rows in
    let yss = (grid_of l.to).rows in
    let n = (size_of l.to).rows in
    string_bytes l.text ++ parts_text (rows_changes f k xss yss l.row (n - l.row))
    ≡ string_bytes l.fn.text ++ parts_text (rows_changes f k xss yss 0 n)
