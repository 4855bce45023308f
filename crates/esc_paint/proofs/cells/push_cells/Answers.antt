use Rattle.std.proofs.Common.{ℕ, ◌+◌, ◌<◌, ◌++◌, string_bytes, length, drop, get_or, refl, ap, ◌∙◌, arith}
use Rattle.esc_screen.specs.Cells.{blank}
use Rattle.esc_screen.specs.declared.cell.Cell.{Cell}
use Rattle.esc_terminal.specs.Links.{known_look, known_of}
use Rattle.esc_paint.specs.Painting.{cells_parts, content_parts, pen_by}
use Rattle.esc_paint.specs.Parts.{parts_text}
use Rattle.esc_paint.proofs.Writing.{cell_more}
use Rattle.esc_paint.proofs.cells.push_cells.Goals as goal

pub loop-column-preserved : goal.loop-column-preserved
loop-column-preserved g c =
    let f = λ (n : ℕ). known_look n (known_of c.args.styles.now) in
    let r = c.args.row in
    let t = string_bytes c.loop-column.text in
    let i = c.loop-column.column in
    let p = c.loop-column.pen in
    let xs = c.args.cells.now in
    let x : Cell = get_or xs i (blank 0) in
    let k = x.content in
    let l = c.look_at-look.result in
    let more = drop (i + 1) xs in
    let less : i < length xs = omega arith in
    ap (λ z. z ++ parts_text (cells_parts f r (i + 1) c.after-pen.result more))
    c.in_ok-push_content.ensures.ok
    ∙ ap (λ q. (t ++ parts_text (content_parts r i p l k))
    ++ parts_text (cells_parts f r (i + 1) q more)) c.after-pen.ensures
    ∙ ap (λ a. (t ++ parts_text (content_parts r i p a k))
    ++ parts_text (cells_parts f r (i + 1) (pen_by p a k) more)) c.look_at-look.ensures
    ∙ cell_more f t r i p xs (blank 0) less x refl
    ∙ c.loop-column.invariant
