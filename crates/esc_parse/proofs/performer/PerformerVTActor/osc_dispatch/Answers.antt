use Rattle.std.proofs.Common.{map}
use Rattle.esc_parse.proofs.Values.CommandsAreGiven.{text_heard}
use Rattle.std.proofs.Math.Logic.{⊎_map}
use Rattle.esc_osc.specs.Reading.{meaning as command_meant}
use Rattle.esc_parse.proofs.performer.PerformerVTActor.osc_dispatch.Goals as goal

pub returns-clause-receives : goal.returns-clause-receives
returns-clause-receives g c =
    text_heard g.S.Sink.takes g.S.Sink.refuses c.give_command.result c.args.self.now
    c.give_command.new.sink (map (λ p. p.now) c.args.params.now)
    (c.give_command.ensures.given _ c.parse-command.ensures.ok c.parse-command.ensures.refused)

pub give_command-requires : goal.give_command-requires
give_command-requires g c =
    ⊎_map (λ r. r) (λ w.
    (command_meant (map (λ p. p.now) c.args.params.now), c.parse-command.ensures.ok, w.3))
    c.requires
