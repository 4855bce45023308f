-- The rows of strings as a stream has them.
use Rattle.std.specs.Prelude.{ℕ, ℤ, Bool, true, false, ◌+◌, ◌-◌, ◌*◌, ◌==◌, ◌&&◌, nat_le, if◌then◌else◌, List, [], ◌∷◌, Option, Some, None}
use Rattle.string_commands.specs.declared.string_kind.StringKind.TheVariants.{Osc, Letter, Dcs, Apc}
use Rattle.string_commands.specs.Rows.{place_of}

abbrev pub is_digit : ℕ → Bool
is_digit b = nat_le 0x30 b && nat_le b 0x39

abbrev pub number_if : Bool → ℕ → Option ℕ
number_if has n = if has then Some n else None

-- the number that a text begins with, up to a `;` or its end, after the digits of n, if there are
-- any; none of more than 999,999,999
abbrev pub number_from : Bool → ℕ → List ℕ → Option ℕ
number_from has n [] = number_if has n
number_from has n (b ∷ bs) = if b == 0x3b then number_if has n
    else if is_digit b && nat_le n 99999999 then number_from true (10 * n + (b - 0x30)) bs
    else None

abbrev pub number_in : List ℕ → Option ℕ
number_in text = number_from false 0 text

-- the rest of a text after the first `;`
abbrev pub after_mark : List ℕ → List ℕ
after_mark [] = []
after_mark (b ∷ bs) = if b == 0x3b then bs else after_mark bs

-- the row of a text that begins with this number, or with a letter
abbrev pub place_with : Option ℕ → List ℕ → Option ℕ
place_with (Some n) text = place_of Osc n [] (after_mark text)
place_with None [] = None
place_with None (b ∷ bs) = place_of Letter b [] bs

abbrev pub place_of_command : List ℕ → Option ℕ
place_of_command text = place_with (number_in text) text

-- a number with a byte more, as a digit to the base 256
abbrev pub put_mark : ℕ → Option ℕ → ℕ
put_mark n None = n
put_mark n (Some b) = 256 * n + b

abbrev pub device_key : Option ℕ → Option ℕ → ℕ → ℕ
device_key prefix intermediate last = 256 * put_mark (put_mark 1 prefix) intermediate + last

abbrev pub place_of_device : Option ℕ → Option ℕ → ℕ → List ℤ → List ℕ → Option ℕ
place_of_device prefix intermediate last params rest =
    place_of Dcs (device_key prefix intermediate last) params rest

abbrev pub place_of_application : List ℕ → Option ℕ
place_of_application [] = None
place_of_application (b ∷ bs) = place_of Apc b [] bs
