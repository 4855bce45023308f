use Rattle.std.proofs.Common.{subst, sym}
use Rattle.esc_frame.specs.Machine.Texts.{IsNext}
use Rattle.esc_frame.proofs.ByteRuns.FirstCharacter.{next_two}
use Rattle.esc_frame.proofs.utf8.texts.two_of.Goals as goal

pub overflow_sub-n : goal.overflow_sub-n
overflow_sub-n c =
    (next_two c.args.text.now c.requires.clear c.requires.starts).1

pub bounds-text-1 : goal.bounds-text-1
bounds-text-1 c =
    (next_two c.args.text.now c.requires.clear c.requires.starts).0

pub overflow_sub-n-2 : goal.overflow_sub-n-2
overflow_sub-n-2 c =
    (next_two c.args.text.now c.requires.clear c.requires.starts).2

pub returns : goal.returns
returns c = subst (λ k. IsNext c.args.text.now k 2) (sym c.from_u32_unchecked.ensures)
    (next_two c.args.text.now c.requires.clear c.requires.starts).3.1
