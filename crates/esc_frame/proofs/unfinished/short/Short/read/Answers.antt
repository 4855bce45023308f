use Rattle.std.proofs.Common.{take, subst}
use Rattle.std.proofs.lemmas.List.{map-id}
use Rattle.esc_frame.specs.Machine.Shorts.{IsShort}
use Rattle.esc_frame.proofs.unfinished.short.Short.read.Goals as goal

pub returns-clause-keeps : goal.returns-clause-keeps
returns-clause-keeps c =
    let body = c.read_body-body.result in
    subst (λ items. IsShort items (take body.length c.args.rest.now))
    (map-id (take body.count c.read_body-body.new.csi_params)) c.read_body-body.ensures.keeps
