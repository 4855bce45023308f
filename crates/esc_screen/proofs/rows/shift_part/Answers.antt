use Rattle.std.proofs.Common.{◌≡◌, ◌<◌, [], length, map, min, refl, ap, ◌∙◌, arith}
use Rattle.esc_screen.specs.Cells.{shifted_cells}
use Rattle.esc_screen.proofs.Parts.{in_no_part}
use Rattle.esc_screen.proofs.Turned.{all_changed, one_changed}
use Rattle.esc_screen.proofs.rows.shift_part.Goals as goal

pub loop-i-preserved : goal.loop-i-preserved
loop-i-preserved g c =
    let xs = c.args.rows.now.items in
    let less : c.loop-i.i < length xs = omega (
      arith,
      c.loop-i-test.true,
      c.min-end.ensures,
      c.len.ensures,
    ) in
    one_changed (shifted_cells c.args.columns.more c.args.columns.look c.args.columns.count
    c.args.columns.column c.args.columns.end)
    c.args.from c.loop-i.i [] xs c.loop-i.rows.items c.shift_row.new.rows.items c.loop-i.near-i less
    c.loop-i.invariant c.shift_row.ensures

pub returns-after-loop-i : goal.returns-after-loop-i
returns-after-loop-i g c =
    let len : c.len.result ≡ length c.args.rows.now.items = omega (arith, c.len.ensures) in
    all_changed (shifted_cells c.args.columns.more c.args.columns.look c.args.columns.count
    c.args.columns.column c.args.columns.end)
    c.args.from c.args.to c.min-end.result c.loop-i.i c.args.rows.now.items c.loop-i.rows.items
    (c.min-end.ensures ∙ ap (min c.args.to) len)
    c.if-from-end.true c.loop-i.far-i c.loop-i-test.false c.loop-i.invariant

pub returns-else-from-end : goal.returns-else-from-end
returns-else-from-end g c =
    let len : c.len.result ≡ length c.args.rows.now.items = omega (arith, c.len.ensures) in
    in_no_part (map (shifted_cells c.args.columns.more c.args.columns.look c.args.columns.count
    c.args.columns.column c.args.columns.end))
    c.args.from c.args.to c.min-end.result c.args.rows.now.items refl
    (c.min-end.ensures ∙ ap (min c.args.to) len) c.if-from-end.false
