use Rattle.std.proofs.Common.{true}
use Rattle.esc_account.proofs.Lines.BytesAreTheSame.{ends_there}
use Rattle.esc_account.proofs.same_lines.same_lines.Goals as goal

pub returns-in-Some-clause-ends : goal.returns-in-Some-clause-ends
returns-in-Some-clause-ends c =
    let k = c.in-Some.ensures in
    ends_there true c.args.bytes.now c.same_bytes-most.result c.in-Some.at k.0.high k.1
