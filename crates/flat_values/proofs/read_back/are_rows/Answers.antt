use Rattle.std.proofs.lemmas.Slice.Eq.{slice_eq-Decides}
use Rattle.flat_values.proofs.RowsSame.{rows_decide}
use Rattle.flat_values.proofs.read_back.are_rows.Goals as goal

pub returns : goal.returns
returns c = slice_eq-Decides rows_decide c.args.rows.now c.args.those.now c.eq.result c.eq.ensures
