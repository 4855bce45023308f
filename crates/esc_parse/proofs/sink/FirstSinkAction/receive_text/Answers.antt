use Rattle.esc_parse.proofs.Lists.ListTakesActions.{first_byte}
use Rattle.esc_parse.proofs.sink.FirstSinkAction.receive_text.Goals as goal

pub returns-clause-given : goal.returns-clause-given
returns-clause-given g c =
    first_byte c.args.text.now 0 c.args.self.now _ c.requires.run.some c.keep_first.ensures
