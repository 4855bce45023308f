use Rattle.std.proofs.Common.{◌++◌, ◌∷◌, [], take, map, ap, ◌∙◌}
use Rattle.esc_frame.proofs.unfinished.fields.put_byte.Goals as goal

pub returns : goal.returns
returns g c = c.put.ensures
    ∙ ap (λ p. map g.E.Param.param (take c.args.count c.args.csi_params.now) ++ p ∷ [])
    c.of_byte.ensures
