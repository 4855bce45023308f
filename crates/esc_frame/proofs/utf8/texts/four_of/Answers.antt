use Rattle.std.proofs.Common.{◌<◌, length, subst, sym, arith}
use Rattle.esc_frame.specs.Machine.Texts.{IsNext}
use Rattle.esc_frame.proofs.ByteRuns.FirstCharacter.{next_four}
use Rattle.esc_frame.proofs.utf8.texts.four_of.Goals as goal

pub bounds-text-1 : goal.bounds-text-1
bounds-text-1 c = let q =
    (next_four c.args.text.now c.requires.clear c.requires.some c.requires.low).0 in
    let l : 1 < length c.args.text.now = omega (arith, q) in l

pub overflow_sub-n-2 : goal.overflow_sub-n-2
overflow_sub-n-2 c = (next_four c.args.text.now c.requires.clear c.requires.some c.requires.low).1

pub bounds-text-2 : goal.bounds-text-2
bounds-text-2 c = let q =
    (next_four c.args.text.now c.requires.clear c.requires.some c.requires.low).0 in
    let l : 2 < length c.args.text.now = omega (arith, q) in l

pub overflow_sub-n-3 : goal.overflow_sub-n-3
overflow_sub-n-3 c = (next_four c.args.text.now c.requires.clear c.requires.some c.requires.low).2

pub bounds-text-3 : goal.bounds-text-3
bounds-text-3 c = (next_four c.args.text.now c.requires.clear c.requires.some c.requires.low).0

pub overflow_sub-n-4 : goal.overflow_sub-n-4
overflow_sub-n-4 c = (next_four c.args.text.now c.requires.clear c.requires.some c.requires.low).3

pub from_u32_unchecked-requires : goal.from_u32_unchecked-requires
from_u32_unchecked-requires c =
    (next_four c.args.text.now c.requires.clear c.requires.some c.requires.low).4.0

pub returns : goal.returns
returns c = subst (λ k. IsNext c.args.text.now k 4) (sym c.from_u32_unchecked.ensures)
    (next_four c.args.text.now c.requires.clear c.requires.some c.requires.low).4.1
