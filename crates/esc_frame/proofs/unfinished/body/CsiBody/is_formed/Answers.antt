use Rattle.std.proofs.Common.{◌∙◌, ap}
use Rattle.esc_frame.specs.Machine.Keeps.{is_formed}
use Rattle.esc_frame.proofs.Steps.FormsGrow.{formed}
use Rattle.esc_frame.proofs.unfinished.body.CsiBody.is_formed.Goals as goal

pub returns : goal.returns
returns c = λ x h. c.is_formed.ensures ∙ ap is_formed h.1 ∙ formed x
