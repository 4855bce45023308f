use Rattle.std.proofs.Common.{chars}
use Rattle.esc_filter.proofs.Output.DeceivingCharacters.{kept_themselves}
use Rattle.esc_filter.proofs.GivingBack.ChangesAreNoted.{run_denied, run_written}
use Rattle.esc_filter.proofs.written.Written.append_str.Goals as goal

pub returns-in-Ok : goal.returns-in-Ok
returns-in-Ok g c =
    let p = c.args.self.now in
    let xs = chars c.args.text.now in
    run_written xs p c.receive_str.new.self c.last_char-self.result c.last_char-self.ensures
    (kept_themselves _ p.guard p.before xs c.requires.kept) c.in-Ok.ensures.given

pub returns-in-Err : goal.returns-in-Err
returns-in-Err g c =
    run_denied (chars c.args.text.now) c.args.self.now _ c.receive_str.new.self
    c.in-Err.ensures.given
