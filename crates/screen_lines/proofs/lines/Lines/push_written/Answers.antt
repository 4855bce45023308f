use Rattle.std.proofs.Common.{arith}
use Rattle.esc_terminal.specs.Links.{known_of}
use Rattle.screen_lines.specs.Parts.{out_from}
use Rattle.screen_lines.specs.Rows.{cells_parts, first_going}
use Rattle.screen_lines.specs.Written.{out_of}
use Rattle.screen_lines.proofs.Runs.{more_added, rest_length}
use Rattle.screen_lines.proofs.lines.Lines.push_written.Goals as goal

pub loop-at-preserved : goal.loop-at-preserved
loop-at-preserved g c =
    let k = known_of c.args.styles.now in
    let cells = c.args.cells.now in
    let at = c.loop-at.at in
    let inv = c.loop-at.invariant in
    let few = c.in_ok-next.ensures.count in
    let long = rest_length cells at in (
      omega (arith, inv.0, few.0, few.2),
      (
        omega (arith, inv.1.0, few.1, long),
        more_added k
            (out_from (out_of c.args.self.now) (cells_parts k first_going cells))
            (out_of c.loop-at.self) (out_of c.push_some.new.self) c.loop-at.going
            c.in_ok-next.next at c.in_ok-next.count cells c.in_ok-next.ensures.ok inv.1.1,
      ),
    )
