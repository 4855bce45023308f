-- Amounts of text.
use Rattle.std.specs.Prelude.{ℕ, ◌≡◌, ◌+◌, ◌-◌, ◌^◌, max, min}
use Rattle.line_collapse.specs.declared.amount.Amount.{Amount}

-- as far as a counter counts
abbrev pub up_to_most : ℕ → ℕ
up_to_most n = min n (2 ^ 64 - 1)

-- so many characters and bytes
abbrev pub amount : ℕ → ℕ → Amount
amount n m = record { chars = up_to_most n; bytes = up_to_most m }

-- with so many more
abbrev pub amount_with : ℕ → ℕ → Amount → Amount
amount_with n m x = amount (x.chars + n) (x.bytes + m)

-- whatever x is the amount of, y is that with so many more
abbrev pub Adds : ℕ → ℕ → Amount → Amount → Type 0
Adds n m x y = (i j : ℕ) → x ≡ amount i j → y ≡ amount (i + n) (j + m)

-- by how many characters or bytes the second is less, whichever is more, up to the bytes of the
-- first
abbrev pub missing : Amount → Amount → ℕ
missing x y = min (max (x.chars - y.chars) (x.bytes - y.bytes)) x.bytes
