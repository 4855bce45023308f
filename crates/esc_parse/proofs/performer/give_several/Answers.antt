use Rattle.std.proofs.Common.{map, refl}
use Rattle.esc_sequences.specs.Csis.{csi_of}
use Rattle.esc_parse.proofs.Lists.StepsOverLists.{StopsAt-here}
use Rattle.esc_parse.proofs.performer.give_several.Goals as goal
use Rattle.esc_parse.specs.Given.{At}
use Rattle.esc_actions.specs.Values.{csi, value_of}
use Rattle.fallible_alloc.specs.Refusals.{Refused}

pub returns-in-Err-clause-given : goal.returns-in-Err-clause-given
returns-in-Err-clause-given g c =
    StopsAt-here (At value_of g.S.Sink.takes) (At value_of g.S.Sink.refuses)
    (Refused g.row.A.Denot) c.args.sink.now
    (map csi (csi_of c.args.params.now c.args.parameters_truncated c.args.byte)) c.args.sink.now
    c.in-Err.ensures.refused refl
