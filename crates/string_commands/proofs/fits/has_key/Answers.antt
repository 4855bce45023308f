use Rattle.string_commands.proofs.Places.{key_here}
use Rattle.string_commands.proofs.fits.has_key.Goals as goal

pub returns-then-is_key : goal.returns-then-is_key
returns-then-is_key c =
    key_here c.args.key.now c.args.text.now c.loop-at.at c.loop-at.here c.is_key.result
    c.loop-at-test.true c.if-here.true c.is_key.ensures c.if-is_key.true c.loop-at.invariant
