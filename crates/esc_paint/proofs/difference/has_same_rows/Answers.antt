use Rattle.std.proofs.Common.{ℕ, ◌≡◌, ◌<◌, true, false, [], get_or, ap, sym, ◌∙◌, arith}
use Rattle.esc_screen.specs.Screens.{grid_of, size_of}
use Rattle.esc_terminal.specs.Links.{known_look, known_of}
use Rattle.esc_paint.specs.Differences.{is_other}
use Rattle.esc_paint.proofs.Changing.{other_row, same_row_more}
use Rattle.esc_paint.proofs.difference.has_same_rows.Goals as goal

pub returns-then-is_other : goal.returns-then-is_other
returns-then-is_other g c =
    let f = λ (n : ℕ). known_look n (known_of c.args.from_styles.now) in
    let k = λ (n : ℕ). known_look n (known_of c.args.to_styles.now) in
    let r = c.loop-row.row in
    let n = (size_of c.args.to.now).rows in
    let xss = (grid_of c.args.from.now).rows in
    let yss = (grid_of c.args.to.now).rows in
    let less : r < n = omega arith in
    let other : is_other f k (get_or xss r []) (get_or yss r []) ≡ true =
    ap (λ xs. is_other f k xs (get_or yss r [])) (sym c.row.ensures)
    ∙ ap (is_other f k c.row.result.now) (sym c.row-in-loop-row.ensures)
    ∙ sym c.is_other.ensures ∙ c.if-is_other.true in
    sym (other_row f k r n xss yss less other) ∙ c.loop-row.invariant

pub loop-row-preserved : goal.loop-row-preserved
loop-row-preserved g c =
    let f = λ (n : ℕ). known_look n (known_of c.args.from_styles.now) in
    let k = λ (n : ℕ). known_look n (known_of c.args.to_styles.now) in
    let r = c.loop-row.row in
    let n = (size_of c.args.to.now).rows in
    let xss = (grid_of c.args.from.now).rows in
    let yss = (grid_of c.args.to.now).rows in
    let less : r < n = omega arith in
    let same : is_other f k (get_or xss r []) (get_or yss r []) ≡ false =
    ap (λ xs. is_other f k xs (get_or yss r [])) (sym c.row.ensures)
    ∙ ap (is_other f k c.row.result.now) (sym c.row-in-loop-row.ensures)
    ∙ sym c.is_other.ensures ∙ c.if-is_other.false in
    sym (same_row_more f k r n xss yss less same) ∙ c.loop-row.invariant
