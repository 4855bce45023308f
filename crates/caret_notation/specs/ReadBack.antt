-- The bytes that a visible text shows.
use Rattle.std.specs.Prelude.{ℕ, ◌+◌, ◌-◌, ◌*◌, Bool, nat_lt, ◌==◌, if◌then◌else◌, List, [], ◌∷◌, ◌++◌}
use Rattle.std.specs.Char.{encode_utf8}

-- the last part that was read: none of the notation, `^`, or `<` and the characters after it
pub data Reading : Type 0 where
  Plain : Reading
  Caret : Reading
  Name : List ℕ → Reading

abbrev pub digit_value : ℕ → ℕ
digit_value d = if nat_lt d 0x41 then d - 0x30 else d - 0x37

-- the number of hexadecimal digits, which these come before
abbrev pub value_after : ℕ → List ℕ → ℕ
value_after n [] = n
value_after n (d ∷ ds) = value_after (n * 16 + digit_value d) ds

-- the text between `<` and `>`: `U+` and the number of a character, or the number of a byte
abbrev pub meant_bytes : List ℕ → List ℕ
meant_bytes [] = []
meant_bytes (a ∷ []) = []
meant_bytes (a ∷ b ∷ ds) = if a == 0x55 then encode_utf8 (value_after 0 ds)
    else value_after 0 (a ∷ b ∷ ds) ∷ []

-- the character after `^`
abbrev pub control_of : ℕ → ℕ
control_of c = if c == 0x3f then 0x7f else c - 0x40

abbrev pub after_plain : ℕ → Reading
after_plain c = if c == 0x5e then Caret else if c == 0x3c then Name [] else Plain

abbrev pub plain_bytes : ℕ → List ℕ
plain_bytes c = if c == 0x5e then [] else if c == 0x3c then [] else c ∷ []

abbrev pub after_name : List ℕ → ℕ → Reading
after_name n c = if c == 0x3e then Plain else Name (n ++ c ∷ [])

abbrev pub name_bytes : List ℕ → ℕ → List ℕ
name_bytes n c = if c == 0x3e then meant_bytes n else []

-- the state that a byte of the text leaves, and the bytes that it completes
abbrev pub after_read : Reading → ℕ → Reading
after_read Plain c = after_plain c
after_read Caret c = Plain
after_read (Name n) c = after_name n c

abbrev pub bytes_read : Reading → ℕ → List ℕ
bytes_read Plain c = plain_bytes c
bytes_read Caret c = control_of c ∷ []
bytes_read (Name n) c = name_bytes n c

abbrev pub read_from : Reading → List ℕ → List ℕ
read_from r [] = []
read_from r (c ∷ t) = bytes_read r c ++ read_from (after_read r c) t

abbrev pub read_back : List ℕ → List ℕ
read_back t = read_from Plain t

-- a byte, by its number
abbrev pub is_byte : ℕ → Bool
is_byte b = nat_lt b 0x100
