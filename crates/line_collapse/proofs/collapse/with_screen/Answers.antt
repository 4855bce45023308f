use Rattle.std.proofs.Common.{◌<◌, length, arith, rules}
use Rattle.esc_screen.specs.Scrolled.{main_rows}
use Rattle.esc_screen.specs.Screens.{grid_of}
use Rattle.esc_terminal.specs.Links.{known_of}
use Rattle.line_collapse.proofs.Closing.{closes_on}
use Rattle.line_collapse.proofs.Rows.{row_taken}
use Rattle.line_collapse.proofs.collapse.with_screen.Goals as goal

pub loop-at-preserved : goal.loop-at-preserved
loop-at-preserved g c =
    let k = known_of c.args.styles.now in
    let rs = main_rows (grid_of c.args.screen.now) in
    let i = c.loop-at.at in
    let less : i < c.count_left-at-end.result = search rules in
    let within : i < length rs = omega (arith, less, c.count_left-at-end.ensures.within) in
    row_taken k rs i c.main_row.result.now c.args.lines c.loop-at.lines c.take_row.new.self
    within c.main_row.ensures c.loop-at.invariant c.in_ok-take_row.ensures.given

pub returns-clause-ok : goal.returns-clause-ok
returns-clause-ok g c =
    closes_on (known_of c.args.styles.now) (grid_of c.args.screen.now) c.loop-at.at
    c.count_left-at-end.result c.args.lines c.loop-at.lines c.back_at.result c.state-state.result
    (search rules) c.count_left-at-end.ensures.rows c.loop-at.invariant c.state-state.ensures
    c.back_at.ensures
