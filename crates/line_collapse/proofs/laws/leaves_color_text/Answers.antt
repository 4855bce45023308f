use Rattle.line_collapse.specs.Streams.{values_of}
use Rattle.line_collapse.proofs.Texts.{final_color, left_color}
use Rattle.line_collapse.proofs.laws.leaves_color_text.Goals as goal

pub returns-clause-final_rows : goal.returns-clause-final_rows
returns-clause-final_rows g c = λ z s. final_color z (values_of g.row.A.Denot s)

pub returns-clause-all_rows : goal.returns-clause-all_rows
returns-clause-all_rows g c = λ z s. left_color z (values_of g.row.A.Denot s)
