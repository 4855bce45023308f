use Rattle.std.proofs.Common.{◌<◌, length, subst, sym, arith}
use Rattle.esc_frame.specs.Machine.Texts.{IsNext}
use Rattle.esc_frame.proofs.ByteRuns.FirstCharacter.{next_three}
use Rattle.esc_frame.proofs.utf8.texts.three_of.Goals as goal

pub bounds-text-1 : goal.bounds-text-1
bounds-text-1 c = let q =
    (next_three c.args.text.now c.requires.clear c.requires.starts).0 in
    let l : 1 < length c.args.text.now = omega (arith, q) in l

pub overflow_sub-n-2 : goal.overflow_sub-n-2
overflow_sub-n-2 c =
    (next_three c.args.text.now c.requires.clear c.requires.starts).1

pub bounds-text-2 : goal.bounds-text-2
bounds-text-2 c =
    (next_three c.args.text.now c.requires.clear c.requires.starts).0

pub overflow_sub-n-3 : goal.overflow_sub-n-3
overflow_sub-n-3 c =
    (next_three c.args.text.now c.requires.clear c.requires.starts).2

pub from_u32_unchecked-requires : goal.from_u32_unchecked-requires
from_u32_unchecked-requires c =
    (next_three c.args.text.now c.requires.clear c.requires.starts).3.0

pub returns : goal.returns
returns c = subst (λ k. IsNext c.args.text.now k 3) (sym c.from_u32_unchecked.ensures)
    (next_three c.args.text.now c.requires.clear c.requires.starts).3.1
