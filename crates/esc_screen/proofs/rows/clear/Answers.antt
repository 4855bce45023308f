use Rattle.std.proofs.Common.{◌≡◌, ◌<◌, [], length, arith}
use Rattle.esc_screen.specs.Cells.{cleared_cells}
use Rattle.esc_screen.proofs.Turned.{one_changed, whole_changed}
use Rattle.esc_screen.proofs.rows.clear.Goals as goal

pub loop-i-preserved : goal.loop-i-preserved
loop-i-preserved g c =
    let xs = c.args.rows.now.items in
    let less : c.loop-i.i < length xs = omega (arith, c.loop-i-test.true, c.len-i-end.ensures) in
    one_changed (cleared_cells c.args.look)
    0 c.loop-i.i [] xs c.loop-i.rows.items c.clear_row.new.rows.items (omega arith) less
    c.loop-i.invariant c.clear_row.ensures

pub returns : goal.returns
returns g c =
    let xs = c.args.rows.now.items in
    let len : c.len-i-end.result ≡ length xs = omega (arith, c.len-i-end.ensures) in
    whole_changed (cleared_cells c.args.look)
    c.len-i-end.result c.loop-i.i xs c.loop-i.rows.items len c.loop-i.far-i
    c.loop-i-test.false c.loop-i.invariant
