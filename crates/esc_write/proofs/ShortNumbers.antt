-- The texts of control sequences of short numbers.
use Rattle.std.proofs.Common.{ℕ, ◌≡◌, ◌+◌, ◌/◌, ◌%◌, ◌<◌, ◌≤◌, [], ◌∷◌, refl}
use Rattle.esc_values.proofs.Numbers.AtMostThreeDigits.{decimal_one, decimal_two, decimal_three}
use Rattle.esc_write.specs.Plain.{indexed_text, last_text, number_text}

pub number_one : (n f : ℕ) → n < 10 → number_text n f ≡ 0x1b ∷ 0x5b ∷ (48 + n) ∷ f ∷ []
number_one n f one = rw (decimal_one n one) refl

pub number_two : (n f : ℕ) → 10 ≤ n → n < 100
    → number_text n f ≡ 0x1b ∷ 0x5b ∷ (48 + n / 10) ∷ (48 + n % 10) ∷ f ∷ []
number_two n f low high = rw (decimal_two n low high) refl

pub number_three : (n f : ℕ) → 100 ≤ n → n < 1000
    → number_text n f ≡ 0x1b ∷ 0x5b ∷ (48 + n / 100) ∷ (48 + n / 10 % 10) ∷ (48 + n % 10) ∷ f ∷ []
number_three n f low high = rw (decimal_three n low high) refl

pub last_one : (n f : ℕ) → n < 10 → last_text n f ≡ (48 + n) ∷ f ∷ []
last_one n f one = rw (decimal_one n one) refl

pub last_two : (n f : ℕ) → 10 ≤ n → n < 100
    → last_text n f ≡ (48 + n / 10) ∷ (48 + n % 10) ∷ f ∷ []
last_two n f low high = rw (decimal_two n low high) refl

pub last_three : (n f : ℕ) → 100 ≤ n → n < 1000
    → last_text n f ≡ (48 + n / 100) ∷ (48 + n / 10 % 10) ∷ (48 + n % 10) ∷ f ∷ []
last_three n f low high = rw (decimal_three n low high) refl

pub indexed_one : (a b c f : ℕ) → 10 ≤ a → a < 100 → b < 10 → c < 10
    → indexed_text a b c f ≡ 0x1b ∷ 0x5b ∷ (48 + a / 10) ∷ (48 + a % 10) ∷ 0x3b ∷ (48 + b) ∷ 0x3b
    ∷ (48 + c) ∷ f ∷ []
indexed_one a b c f low high one small =
    rw (decimal_two a low high, decimal_one b one, decimal_one c small) refl

pub indexed_two : (a b c f : ℕ) → 10 ≤ a → a < 100 → b < 10 → 10 ≤ c → c < 100
    → indexed_text a b c f ≡ 0x1b ∷ 0x5b ∷ (48 + a / 10) ∷ (48 + a % 10) ∷ 0x3b ∷ (48 + b) ∷ 0x3b
    ∷ (48 + c / 10) ∷ (48 + c % 10) ∷ f ∷ []
indexed_two a b c f low high one more small =
    rw (decimal_two a low high, decimal_one b one, decimal_two c more small) refl

pub indexed_three : (a b c f : ℕ) → 10 ≤ a → a < 100 → b < 10 → 100 ≤ c → c < 1000
    → indexed_text a b c f
    ≡ 0x1b ∷ 0x5b ∷ (48 + a / 10) ∷ (48 + a % 10) ∷ 0x3b ∷ (48 + b) ∷ 0x3b ∷ (48 + c / 100)
    ∷ (48 + c / 10 % 10) ∷ (48 + c % 10) ∷ f ∷ []
indexed_three a b c f low high one more small =
    rw (decimal_two a low high, decimal_one b one, decimal_three c more small) refl
