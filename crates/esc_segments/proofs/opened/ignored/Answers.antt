use Rattle.std.proofs.Common.{refl}
use Rattle.esc_segments.proofs.Bodies.{ignored_is}
use Rattle.esc_segments.proofs.opened.ignored.Goals as goal

pub returns-clause-found : goal.returns-clause-found
returns-clause-found c =
    ignored_is c.args.body.now c.data_run-end.result c.data_run-end.ensures.run _ refl
