-- Lists of numbers of 8 bits are clear parts that read back.
use Rattle.std.proofs.Common.{ℕ, ◌≡◌, ◌<◌, ◌≤◌, nat_eq, false, List, [], ◌∷◌, length, map, Some, refl, arith}
use Rattle.std.specs.Fmt.{decimal}
use Rattle.std.specs.Option.{unwrap_or}
use Rattle.std.proofs.lemmas.Bool.{ne_eqb, le-leb}
use Rattle.std.proofs.lemmas.Fmt.{decimal_nonempty}
use Rattle.esc_values.specs.Clear.{IsClearPart, AreClearParts}
use Rattle.esc_values.specs.Scalars.{number_of}
use Rattle.esc_values.proofs.Clear.NumbersAreClear.{number_back, decimal_part}
use Rattle.esc_osc_values.specs.Lists.{numbers_of}
use Rattle.esc_osc_values.specs.Progresses.{capped_at_100}
use Rattle.esc_osc_values.specs.WritableValues.{AreNumbers}

pub byte_back : (n : ℕ) → n < 256 → number_of 8 (decimal n) ≡ Some n
byte_back n small = number_back 8 n small (omega arith)

pub byte_part : (n : ℕ) → n < 256 → IsClearPart (decimal n)
byte_part n small = decimal_part n (omega arith)

pub decimals_are_parts : (ns : List ℕ) → AreNumbers ns → AreClearParts (map decimal ns)
decimals_are_parts [] h = tt
decimals_are_parts (n ∷ ns) h = (byte_part n h.0, decimals_are_parts ns h.1)

pub numbers_back : (ns : List ℕ) → AreNumbers ns → numbers_of (map decimal ns) ≡ Some ns
numbers_back [] h = refl
numbers_back (n ∷ ns) h =
    let some : nat_eq (length (decimal n)) 0 ≡ false =
    ne_eqb _ 0 (λ e. let p = decimal_nonempty n (omega arith) in omega arith) in
    rw (some, byte_back n h.0, numbers_back ns h.1) refl

-- a percentage reads back
pub percent_back : (n : ℕ) → n ≤ 100 → capped_at_100 (unwrap_or (number_of 8 (decimal n)) 0) ≡ n
percent_back n h = rw (byte_back n (omega arith), le-leb n 100 h) refl
