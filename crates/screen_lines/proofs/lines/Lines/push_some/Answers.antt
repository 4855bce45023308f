use Rattle.esc_screen.specs.Cells.{blank}
use Rattle.esc_terminal.specs.Links.{known_of}
use Rattle.screen_lines.specs.Written.{out_of}
use Rattle.screen_lines.proofs.Runs.{some_added}
use Rattle.screen_lines.proofs.lines.Lines.push_some.Goals as goal

pub returns-clause-ok : goal.returns-clause-ok
returns-clause-ok g c =
    let k = known_of c.args.styles.now in
    let cells = c.args.cells.now in
    some_added k (out_of c.args.self.now) (out_of c.push_cell.new.self)
    (out_of c.push_run.new.self) c.args.going c.in_ok-next.next c.in_ok-count.count cells (blank 0)
    c.requires.0 c.in_ok-next.ensures.ok.0 c.in_ok-next.ensures.ok.1
    (c.in_ok-count.ensures.ok k)
