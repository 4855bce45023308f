use Rattle.std.proofs.Common.{ap, length, arith}
use Rattle.typed_functions.specs.Selections.{mode_of, no_separators}
use Rattle.typed_functions.proofs.Cutting.{next_is}
use Rattle.typed_functions.proofs.modes.ModesIterator.next.Goals as goal

pub returns-clause-steps : goal.returns-clause-steps
returns-clause-steps c =
    rw (
      c.in-Some.is,
      c.after-self.ensures,
      c.mode_number.ensures,
      c.len_before-len.ensures.len,
    ) (next_is no_separators mode_of c.in-Some.entries.now)

pub returns-clause-goes : goal.returns-clause-goes
returns-clause-goes c =
    record {
      on = λ fin. (tt, fin, omega (arith, ap length (returns-clause-steps c)));
      keeps = tt;
      rests = λ fin. tt;
    }
