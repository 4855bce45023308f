use Rattle.std.proofs.Common.{ℕ, ◌≡◌, ◌++◌, ◌-◌, string_bytes}
use Rattle.esc_screen.specs.Screens.{grid_of, size_of}
use Rattle.esc_terminal.specs.Links.{known_look, known_of}
use Rattle.esc_paint.specs.Painting.{rows_parts}
use Rattle.esc_paint.specs.Parts.{parts_text}
use Rattle.esc_paint.proofs.painting.push_rows.Given as goal

-- with the rest it is the text of all
abbrev pub invariant-loop-row : goal.invariant-loop-row
invariant-loop-row g l =
    let f = λ (n : ℕ). known_look n (known_of l.styles) in
    let xss = (grid_of l.screen).rows in
    let n = (size_of l.screen).rows in
    string_bytes l.text ++ parts_text (rows_parts f xss l.row (n - l.row))
    ≡ string_bytes l.fn.text ++ parts_text (rows_parts f xss 0 n)
