use Rattle.std.proofs.lemmas.List.{take_rest}
use Rattle.esc_account.proofs.first.after.Goals as goal

pub returns : goal.returns
returns c = take_rest c.args.bytes.now c.args.count
