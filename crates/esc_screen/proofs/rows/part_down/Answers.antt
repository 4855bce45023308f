use Rattle.std.proofs.Common.{◌≡◌, length, map, min, refl, ap, ◌∙◌, arith}
use Rattle.esc_screen.specs.Cells.{cleared_cells}
use Rattle.esc_screen.specs.Lists.{moved_down}
use Rattle.esc_screen.proofs.Parts.{in_no_part, down_none}
use Rattle.esc_screen.proofs.Turned.{part_down_is}
use Rattle.esc_screen.proofs.rows.part_down.Goals as goal

pub returns-then-from-end : goal.returns-then-from-end
returns-then-from-end g c =
    let len : c.len.result ≡ length c.args.rows.now.items = omega (arith, c.len.ensures) in
    part_down_is (map (cleared_cells c.args.look))
    c.args.from c.args.to c.min-end.result c.args.count c.min-count.result c.args.rows.now.items
    c.turn_down.new.rows.items c.clear_part.new.rows.items
    (c.min-end.ensures ∙ ap (min c.args.to) len)
    c.if-from-end.true c.min-count.ensures c.turn_down.ensures c.clear_part.ensures

pub returns-else-from-end : goal.returns-else-from-end
returns-else-from-end g c =
    let len : c.len.result ≡ length c.args.rows.now.items = omega (arith, c.len.ensures) in
    in_no_part (moved_down c.args.count (map (cleared_cells c.args.look)))
    c.args.from c.args.to c.min-end.result c.args.rows.now.items
    (down_none c.args.count (map (cleared_cells c.args.look)) refl)
    (c.min-end.ensures ∙ ap (min c.args.to) len) c.if-from-end.false
