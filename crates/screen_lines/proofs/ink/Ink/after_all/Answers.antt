use Rattle.std.proofs.Common.{arith, rules}
use Rattle.screen_lines.proofs.Runs.{ink_all}
use Rattle.screen_lines.proofs.ink.Ink.after_all.Goals as goal

pub returns-then-not-is_empty : goal.returns-then-not-is_empty
returns-then-not-is_empty c =
    ink_all c.args.self c.args.bytes.now 0 c.saturating_add-room.result (search (arith, rules))
    (omega (arith, c.saturating_add-room.ensures, c.if-room-le-MOST_ROOM.true))
    (omega (arith, c.if-room-le-MOST_ROOM.true))
