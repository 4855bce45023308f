use Rattle.std.proofs.Common.{refl}
use Rattle.line_collapse.proofs.Printing.{nothing_printed}
use Rattle.line_collapse.proofs.tally.Tally.new.Goals as goal

pub returns : goal.returns
returns g c = record {
  parser = c.with_limit.ensures;
  height = refl;
  width = refl;
  printed = nothing_printed g.row.A.Denot c.args.rows c.args.columns _ c.none.ensures;
  kept = c.none-2.ensures;
}
