use Rattle.esc_filter.proofs.Output.DeceivingCharacters.{text_themselves}
use Rattle.esc_filter.proofs.GivingBack.ChangesAreNoted.{run_denied, run_written}
use Rattle.esc_filter.proofs.written.WrittenSinkAction.receive_text.Goals as goal

pub returns-in-Ok-clause-given : goal.returns-in-Ok-clause-given
returns-in-Ok-clause-given g c =
    let p = c.args.self.now in
    let xs = c.args.text.now in
    run_written xs p c.receive_text.new.self c.last_byte-self.result c.last_byte-self.ensures
    (text_themselves _ p.guard p.before xs c.requires.run.all) c.in-Ok.ensures.given

pub returns-in-Err-clause-given : goal.returns-in-Err-clause-given
returns-in-Err-clause-given g c =
    run_denied c.args.text.now c.args.self.now _ c.receive_text.new.self c.in-Err.ensures.given
