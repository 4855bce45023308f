use Rattle.esc_values.specs.Clear.{parts_of}
use Rattle.esc_parse.proofs.Values.CommandsAreGiven.{text_taken}
use Rattle.esc_parse.proofs.performer.PerformerVTActor.osc_text.Goals as goal

pub returns-clause-emitted : goal.returns-clause-emitted
returns-clause-emitted g c =
    text_taken _ g.S.Sink.takes g.S.Sink.refuses c.give_text.result c.args.self.now
    c.give_text.new.sink (parts_of c.args.text.now)
    c.give_text.ensures.given

pub returns-clause-few : goal.returns-clause-few
returns-clause-few g c = λ _.
    text_taken ⊥ g.S.Sink.takes g.S.Sink.refuses c.give_text.result c.args.self.now
    c.give_text.new.sink (parts_of c.args.text.now)
    c.give_text.ensures.given
