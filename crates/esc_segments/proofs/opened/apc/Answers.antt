use Rattle.std.proofs.Common.{refl}
use Rattle.esc_segments.proofs.Bodies.{apc_is}
use Rattle.esc_segments.proofs.opened.apc.Goals as goal

pub returns-clause-found : goal.returns-clause-found
returns-clause-found c =
    apc_is c.args.body.now c.data_run-end.result c.data_run-end.ensures.run _ refl
