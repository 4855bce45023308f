use Rattle.std.proofs.Common.{◌≡◌, ◌<◌, [], ap, length, subst, arith, rules, take, ◌∙◌}
use Rattle.line_collapse.proofs.Adding.{next_added}
use Rattle.line_collapse.specs.Amounts.{Adds}
use Rattle.line_collapse.specs.RowText.{row_bytes, row_chars, rows_bytes, rows_chars}
use Rattle.esc_screen.specs.Scrolled.{main_rows}
use Rattle.esc_screen.specs.Screens.{grid_of}
use Rattle.line_collapse.proofs.lost.with_left.Goals as goal

pub loop-at-preserved : goal.loop-at-preserved
loop-at-preserved g c =
    let rs = main_rows (grid_of c.args.screen.now) in
    let i = c.loop-at.at in
    let less : i < c.count_left-at-end.result = search rules in
    let within : i < length rs = omega (arith, less, c.count_left-at-end.ensures.within) in
    next_added row_chars row_bytes rs i [] c.main_row.result.now c.args.amount c.loop-at.amount _
    within c.main_row.ensures c.loop-at.invariant c.add_row.ensures

pub returns : goal.returns
returns g c =
    let all : c.loop-at.at ≡ c.count_left-at-end.result = search rules in
    subst (λ x. Adds (rows_chars x) (rows_bytes x) c.args.amount c.loop-at.amount)
    (ap (λ n. take n (main_rows (grid_of c.args.screen.now))) all
    ∙ c.count_left-at-end.ensures.rows)
    c.loop-at.invariant
