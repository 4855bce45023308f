use Rattle.std.proofs.Common.{[], ◌∷◌, MatchResult, subst}
use Rattle.std.specs.List.{FoldsTo}
use Rattle.esc_values.specs.Clear.{parts_of}
use Rattle.esc_actions.specs.Values.{osc, value_of}
use Rattle.esc_osc.specs.Reading.{meaning as command_meant}
use Rattle.esc_parse.specs.Given.{At, MayReceive, StopsAt}
use Rattle.std.proofs.Math.Logic.{⊎_map}
use Rattle.std.proofs.Common.{sym}
use Rattle.esc_parse.proofs.performer.give_text.Goals as goal
use Rattle.fallible_alloc.specs.Refusals.{Refused}

pub returns-in-Ok-false-clause-given : goal.returns-in-Ok-false-clause-given
returns-in-Ok-false-clause-given g c =
    let new = c.give_command.new.sink in
    let meant = osc (command_meant (parts_of c.args.text.now)) ∷ [] in
    subst (λ s. MatchResult c.give_command.result
    (λ _. FoldsTo (At value_of g.S.Sink.takes) s meant new)
    (λ _. StopsAt (Refused g.row.A.Denot) (At value_of g.S.Sink.takes)
    (At value_of g.S.Sink.refuses) s meant new))
    (c.in-Ok-false.ensures.given.left c.in-Ok-false.field-0-test)
    (c.give_command.ensures.given _ c.command_in.ensures.ok c.command_in.ensures.refused)

pub give_command-requires : goal.give_command-requires
give_command-requires g c =
    let meant = osc (command_meant (parts_of c.args.text.now)) ∷ [] in
    ⊎_map (λ r. r) (λ w. (command_meant (parts_of c.args.text.now), c.command_in.ensures.ok, w))
    (subst (λ s. MayReceive g.S.Sink.is_ready g.S.Sink.may g.S.Sink.takes s meant)
    (sym (c.in-Ok-false.ensures.given.left c.in-Ok-false.field-0-test)) c.requires)
