use Rattle.std.proofs.Common.{ℕ, ◌+◌, ◌-◌, ◌<◌, ◌++◌, string_bytes, ap, ◌∙◌, arith}
use Rattle.esc_screen.specs.Screens.{grid_of, size_of}
use Rattle.esc_terminal.specs.Links.{known_look, known_of}
use Rattle.esc_paint.specs.Painting.{row_parts, rows_parts}
use Rattle.esc_paint.specs.Parts.{parts_text}
use Rattle.esc_paint.proofs.Writing.{row_more}
use Rattle.esc_paint.proofs.painting.push_rows.Goals as goal

pub loop-row-preserved : goal.loop-row-preserved
loop-row-preserved g c =
    let f = λ (n : ℕ). known_look n (known_of c.args.styles.now) in
    let t = string_bytes c.loop-row.text in
    let r = c.loop-row.row in
    let n = (size_of c.args.screen.now).rows in
    let xss = (grid_of c.args.screen.now).rows in
    let rest = parts_text (rows_parts f xss (r + 1) (n - (r + 1))) in
    let less : r < n = omega arith in
    ap (λ z. z ++ rest) c.in_ok-push_row.ensures.ok
    ∙ ap (λ xs. (t ++ parts_text (row_parts f r xs)) ++ rest) c.row.ensures
    ∙ row_more f t r n xss less
    ∙ c.loop-row.invariant
