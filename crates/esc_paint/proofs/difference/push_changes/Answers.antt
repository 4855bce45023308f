use Rattle.std.proofs.Common.{ℕ, ◌+◌, ◌-◌, ◌<◌, ◌++◌, [], string_bytes, get_or, ap, ◌∙◌, arith}
use Rattle.esc_screen.specs.Screens.{grid_of, size_of}
use Rattle.esc_terminal.specs.Links.{known_look, known_of}
use Rattle.esc_paint.specs.Differences.{row_changes, rows_changes}
use Rattle.esc_paint.specs.Parts.{parts_text}
use Rattle.esc_paint.proofs.Changing.{changes_more}
use Rattle.esc_paint.proofs.difference.push_changes.Goals as goal

pub loop-row-preserved : goal.loop-row-preserved
loop-row-preserved g c =
    let f = λ (n : ℕ). known_look n (known_of c.args.from_styles.now) in
    let k = λ (n : ℕ). known_look n (known_of c.args.to_styles.now) in
    let t = string_bytes c.loop-row.text in
    let r = c.loop-row.row in
    let n = (size_of c.args.to.now).rows in
    let xss = (grid_of c.args.from.now).rows in
    let yss = (grid_of c.args.to.now).rows in
    let rest = parts_text (rows_changes f k xss yss (r + 1) (n - (r + 1))) in
    let less : r < n = omega arith in
    ap (λ z. z ++ rest) c.in_ok-push_change.ensures.ok
    ∙ ap (λ xs. (t ++ parts_text (row_changes f k r xs c.row-in-loop-row.result.now)) ++ rest)
    c.row.ensures
    ∙ ap (λ ys. (t ++ parts_text (row_changes f k r (get_or xss r []) ys)) ++ rest)
    c.row-in-loop-row.ensures
    ∙ changes_more f k t r n xss yss less
    ∙ c.loop-row.invariant
