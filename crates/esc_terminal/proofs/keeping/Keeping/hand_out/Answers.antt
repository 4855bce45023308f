use Rattle.std.proofs.Common.{◌<◌, [], length, get_or, ap, subst, ◌∙◌, arith, rules}
use Rattle.esc_terminal.specs.Fed.{known_in}
use Rattle.esc_terminal.proofs.Handed.{row_more}
use Rattle.esc_terminal.proofs.keeping.Keeping.hand_out.Goals as goal

pub loop-at-preserved : goal.loop-at-preserved
loop-at-preserved g c =
    let p = c.args.self.now in
    let ls = known_in p.state in
    let rs = p.state.screen.rows.items in
    let i = c.loop-at.at in
    let same = c.loop-at.invariant.0 in
    let less : i < c.leaving-at-end.result = search rules in
    let within : i < length rs = omega (arith, less, c.leaving-at-end.ensures.within) in
    let row = c.row.ensures ∙ ap (λ z. get_or z.screen.rows.items i []) same in
    let known = ap known_in same in
    let given = subst (λ z. g.R.Rows.takes c.loop-at.self.rows z c.take_used.new.self)
    (ap (λ x. (x, known_in c.loop-at.self.state)) row ∙ ap (λ y. (get_or rs i [], y)) known)
    c.in_ok-take_used.ensures.given in (
      same,
      row_more g.R.Rows.takes ls rs i p.rows c.loop-at.self.rows c.take_used.new.self within
          c.loop-at.invariant.1 given,
    )
