use Rattle.std.proofs.Common.{◌<◌, [], length, get_or, ap, subst, ◌∙◌, arith, rules}
use Rattle.esc_screen.specs.Screens.{grid_of}
use Rattle.esc_screen.specs.Scrolled.{main_rows}
use Rattle.esc_terminal.specs.Fed.{known_in}
use Rattle.esc_terminal.proofs.Handed.{row_more}
use Rattle.esc_terminal.proofs.keeping.Keeping.hand_out_first.Goals as goal

pub loop-at-preserved : goal.loop-at-preserved
loop-at-preserved g c =
    let p = c.args.self.now in
    let ls = known_in p.state in
    let rs = main_rows (grid_of p.state.screen) in
    let i = c.loop-at.at in
    let same = c.loop-at.invariant.0 in
    let less : i < c.min-at-end.result = search rules in
    let within : i < length rs = omega (arith, less, c.min-at-end.ensures, c.main_height.ensures) in
    let row = c.main_row-row.ensures
    ∙ ap (λ z. get_or (main_rows (grid_of z.screen)) i []) same in
    let known = ap known_in same in
    let given = subst (λ z. g.R.Rows.takes c.loop-at.self.rows z c.take_row.new.self)
    (ap (λ x. (x, known_in c.loop-at.self.state)) row ∙ ap (λ y. (get_or rs i [], y)) known)
    c.in_ok-take_row.ensures.given in (
      same,
      row_more g.R.Rows.takes ls rs i p.rows c.loop-at.self.rows c.take_row.new.self within
          c.loop-at.invariant.1 given,
    )
