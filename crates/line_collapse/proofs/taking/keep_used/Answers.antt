use Rattle.line_collapse.proofs.Taken.{used_kept}
use Rattle.line_collapse.proofs.taking.keep_used.Goals as goal

pub returns : goal.returns
returns g c =
    used_kept c.args.tally.now _ c.args.cells.now c.args.used _ c.requires c.min-end.ensures
    c.keep.ensures
