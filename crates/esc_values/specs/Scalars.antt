-- The texts of scalars: numbers and UTF-8.
use Rattle.std.specs.Prelude.{ℕ, ℤ, pos, negsuc, ◌-◌, ◌^◌, ◌<◌, nat_lt, Bool, ◌&&◌, if◌then◌else◌, List, length, Option, Some, None}
use Rattle.std.specs.Str.{all_ascii_digits, is_utf8}
use Rattle.std.specs.Str.Parse.{without_leading_plus, without_leading_sign, digits_value, signed_digits_value}

-- the result of f for the value, if there is one
abbrev pub and_then : {X Y : Type 0} → Option X → (X → Option Y) → Option Y
and_then None f = None
and_then (Some x) f = f x

-- x, if the test holds
abbrev pub some_if : {X : Type 0} → Bool → X → Option X
some_if b x = if b then Some x else None

-- bytes that are a text
abbrev pub utf8_of : List ℕ → Option (List ℕ)
utf8_of bs = some_if (is_utf8 bs) bs

-- the number of at least one digit, if it has k bits
abbrev pub number_in : ℕ → List ℕ → Option ℕ
number_in k ds =
    some_if (nat_lt 0 (length ds) && all_ascii_digits ds && nat_lt (digits_value 10 ds) (2 ^ k))
    (digits_value 10 ds)

-- the number of k bits that a text writes in decimal, with or without a `+`
abbrev pub number_of : ℕ → List ℕ → Option ℕ
number_of k bs = number_in k (without_leading_plus bs)

-- a number of a signed type of k bits: from - 2 ^ (k - 1), which is negsuc (2 ^ (k - 1) - 1), to 2
-- ^ (k - 1) - 1
abbrev pub IsSigned : ℕ → ℤ → Type 0
IsSigned k (pos n) = n < 2 ^ (k - 1)
IsSigned k (negsuc n) = n < 2 ^ (k - 1)

abbrev pub is_signed : ℕ → ℤ → Bool
is_signed k (pos n) = nat_lt n (2 ^ (k - 1))
is_signed k (negsuc n) = nat_lt n (2 ^ (k - 1))

-- the number of k bits that a text writes in decimal: a `-`, a `+` or no sign, and then at least
-- one digit
abbrev pub signed_of : ℕ → List ℕ → Option ℤ
signed_of k bs =
    some_if (nat_lt 0 (length (without_leading_sign bs))
    && all_ascii_digits (without_leading_sign bs)
    && is_signed k (signed_digits_value 10 bs))
    (signed_digits_value 10 bs)
