use Rattle.std.proofs.Common.{rules, ◌≡◌, ◌<◌, ℕ, List, [], ◌∷◌, length, take, refl, arith}
use Rattle.std.proofs.Math.ListN.{set}
use Rattle.failing_alloc.proofs.byte_reader.ByteReaderRead.read.Goals as goal

first_set : (xs : List ℕ) (x : ℕ) → 0 < length xs → take 1 (set xs 0 x) ≡ x ∷ []
first_set [] x h = absurd (omega arith)
first_set (y ∷ ys) x h = refl

pub returns-clause-bytes : goal.returns-clause-bytes
returns-clause-bytes c =
    let e = first_set c.args.buf.now c.in-Some.first.now (search rules) in
    (rw e (search rules), λ z. absurd (omega arith))
