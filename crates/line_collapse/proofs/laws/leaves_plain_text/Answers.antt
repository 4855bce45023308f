use Rattle.line_collapse.specs.Streams.{values_of}
use Rattle.line_collapse.proofs.Texts.{final_plain, left_plain}
use Rattle.line_collapse.proofs.laws.leaves_plain_text.Goals as goal

pub returns-clause-final_rows : goal.returns-clause-final_rows
returns-clause-final_rows g c = λ z s none. final_plain z (values_of g.row.A.Denot s) none

pub returns-clause-all_rows : goal.returns-clause-all_rows
returns-clause-all_rows g c = λ z s none. left_plain z (values_of g.row.A.Denot s) none
