use Rattle.std.proofs.Common.{◌≡◌, ◌++◌, drop, string_bytes}
use Rattle.esc_terminal.specs.Links.{known_look, known_of}
use Rattle.esc_paint.specs.Painting.{cells_parts}
use Rattle.esc_paint.specs.Parts.{parts_text}
use Rattle.esc_paint.proofs.cells.push_cells.Given as goal

-- with the rest it is the text of all
abbrev pub invariant-loop-column : goal.invariant-loop-column
invariant-loop-column g l = string_bytes l.text
    ++ parts_text (cells_parts (λ n. known_look n (known_of l.styles)) l.row l.column l.pen
    (drop l.column l.cells))
    ≡ string_bytes l.fn.text
    ++ parts_text (cells_parts (λ n. known_look n (known_of l.styles)) l.row l.fn.first l.fn.pen
    (drop l.fn.first l.cells))
