use Rattle.esc_parse.proofs.Lists.StepsOverLists.{StopsAt-weaker, awaits_seen, folds_seen, stops_seen}
use Rattle.std.proofs.Math.Logic.{⊎_map}
use Rattle.esc_parse.proofs.performer.give_csi.Goals as goal
use Rattle.esc_actions.specs.Values.{csi, value_of}
use Rattle.esc_parse.specs.Given.{At}
use Rattle.fallible_alloc.specs.Refusals.{Refused}

pub returns-in-Ok-true-clause-given : goal.returns-in-Ok-true-clause-given
returns-in-Ok-true-clause-given g c =
    folds_seen value_of csi g.S.Sink.takes g.S.Sink.refuses c.args.sink.now _ _
    (c.in-Ok-true.ensures.given.taken c.in-Ok-true.field-0-test)

pub returns-in-Err-clause-given : goal.returns-in-Err-clause-given
returns-in-Err-clause-given g c =
    StopsAt-weaker (At value_of g.S.Sink.takes) (At value_of g.S.Sink.refuses)
    (Refused g.row.A.Denot) ⊥ c.args.sink.now _ _
    (λ no. absurd no)
    (stops_seen value_of csi g.S.Sink.takes g.S.Sink.refuses ⊥ c.args.sink.now _ _
    c.in-Err.ensures.given.refused)

pub receive_sequence-requires : goal.receive_sequence-requires
receive_sequence-requires g c =
    ⊎_map (λ r. r) (awaits_seen value_of csi g.S.Sink.takes g.S.Sink.refuses g.S.Sink.may
    c.args.sink.now _) c.requires
