use Rattle.std.proofs.Common.{◌≡◌, List, ℕ, ◌++◌}
use Rattle.std.specs.Str.Iter.{chars_rest}
use Rattle.dump_page.specs.Quoted.{Quotes}
use Rattle.dump_page.proofs.quoted.push_text.Given as goal

abbrev pub invariant-loop-c : goal.invariant-loop-c
invariant-loop-c l = (done : List ℕ) × (l.fn.text ≡ done ++ chars_rest l.c-iterator)
    × Quotes l.fn.to l.to done
