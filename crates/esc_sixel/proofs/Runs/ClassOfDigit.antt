-- The class of a digit.
use Rattle.std.proofs.Common.{◌≡◌, ℕ, ◌+◌, ◌-◌, ◌<◌, arith}
use Rattle.std.proofs.lemmas.Bool.Decides.{nat_tests}
use Rattle.esc_sixel.specs.Classes.{class_of, IsDigit}
use Rattle.esc_sixel.specs.declared.class.Class.TheVariants.{Digit, Separator}

pub digit_is : (b d : ℕ) → class_of b ≡ Digit d → b ≡ d + 48
unfolding class_of
digit_is b d e = grind (arith, nat_tests)

pub digit_small : (b d : ℕ) → class_of b ≡ Digit d → d < 10
unfolding class_of
digit_small b d e = grind (arith, nat_tests)

pub next_is : (b : ℕ) → class_of b ≡ Separator → b ≡ 59
unfolding class_of
next_is b e = grind (arith, nat_tests)

pub digit_class : (b : ℕ) → IsDigit b → class_of b ≡ Digit (b - 0x30)
unfolding class_of
digit_class b h = grind (arith, nat_tests)

pub digit_below : (b : ℕ) → IsDigit b → b - 0x30 < 10
digit_below b h = grind (arith, nat_tests)

pub digit_whole : (b : ℕ) → IsDigit b → (b - 0x30) + 48 ≡ b
digit_whole b h = grind (arith, nat_tests)
