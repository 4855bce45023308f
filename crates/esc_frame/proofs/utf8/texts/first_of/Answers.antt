use Rattle.esc_frame.proofs.ByteRuns.FirstCharacter.{next_one}
use Rattle.esc_frame.proofs.utf8.texts.first_of.Goals as goal

pub returns-then-text-lt128-clause-next : goal.returns-then-text-lt128-clause-next
returns-then-text-lt128-clause-next c =
    next_one c.args.text.now c.requires.clear c.requires.some c.if-text-lt128.true
