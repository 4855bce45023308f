-- Numbers as text.
use Rattle.std.proofs.Common.{ℕ, ◌≡◌, ◌+◌, ◌/◌, ◌%◌, ◌<◌, ◌≤◌, Result, Ok, Err, OnOk, ◌∷◌, [], refl}
use Rattle.esc_values.proofs.Numbers.AtMostThreeDigits.{decimal_one, decimal_two, decimal_three}
use Rattle.esc_sgr.specs.Sgr.{number_text}

pub number_one : (n : ℕ) → n < 10 → number_text n ≡ 0x3b ∷ (48 + n) ∷ []
number_one n one = rw (decimal_one n one) refl

pub number_two : (n : ℕ) → 10 ≤ n → n < 100
    → number_text n ≡ 0x3b ∷ (48 + n / 10) ∷ (48 + n % 10) ∷ []
number_two n low high = rw (decimal_two n low high) refl

pub number_three : (n : ℕ) → 100 ≤ n → n < 1000
    → number_text n ≡ 0x3b ∷ (48 + n / 100) ∷ (48 + n / 10 % 10) ∷ (48 + n % 10) ∷ []
number_three n low high = rw (decimal_three n low high) refl

pub ok_map : {U E X Y : Type 0} (r : Result U E) → (X → Y) → OnOk r X → OnOk r Y
ok_map (Ok u) f x = f x
ok_map (Err e) f x = tt
