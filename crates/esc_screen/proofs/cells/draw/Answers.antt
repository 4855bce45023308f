use Rattle.std.proofs.Common.{◌<◌, length, get_or, set, ap, ◌∙◌, rules}
use Rattle.esc_screen.specs.Cells.{drawn_cell}
use Rattle.esc_screen.proofs.Whole.RunWithoutWide.{draw_more}
use Rattle.esc_screen.proofs.cells.draw.Goals as goal

pub loop-i-preserved : goal.loop-i-preserved
loop-i-preserved c =
    let i = c.loop-i.i in
    let t = c.args.text.now in
    let l = c.args.look in
    let less : i < length t = search rules in
    ap (set c.loop-i.cells i) c.narrow.ensures
    ∙ ap (λ z. set z i (drawn_cell l (get_or t i 0))) c.loop-i.invariant
    ∙ draw_more l i t c.args.cells.now 0 less c.requires
