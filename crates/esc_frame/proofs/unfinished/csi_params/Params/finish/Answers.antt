use Rattle.std.proofs.Common.{None, ◌∙◌}
use Rattle.esc_frame.specs.Machine.Keeps.{closed_of, number_of_run}
use Rattle.esc_frame.proofs.Steps.ParamsGrow.{finished_csi_params, finished_truncated}
use Rattle.esc_frame.proofs.unfinished.csi_params.Params.finish.Goals as goal

pub returns-clause-items : goal.returns-clause-items
returns-clause-items c =
    λ x h. finished_csi_params x _ _ _ (c.close.ensures.limit ∙ h.2)
    (c.close.ensures.first (number_of_run None x) (closed_of None x) h.1 h.0)

pub returns-clause-truncated : goal.returns-clause-truncated
returns-clause-truncated c =
    λ x h. finished_truncated x _ _ _ (c.close.ensures.limit ∙ h.2)
    (c.close.ensures.first (number_of_run None x) (closed_of None x) h.1 h.0)
