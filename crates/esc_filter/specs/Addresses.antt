-- Addresses of links that have `;` in them, and come in parts: terminals take all that follows the
-- second `;` of the command OSC 8 for the address ("Hyperlinks in terminal emulators"), whatever
-- comes before it.
use Rattle.std.specs.Prelude.{ℕ, Bool, true, false, not, ◌==◌, if◌then◌else◌, List, [], ◌∷◌}
use Rattle.esc_frame.specs.Segments.{is_empty}

-- the code of links, alone
abbrev pub is_link_code : List ℕ → Bool
is_link_code [] = false
is_link_code (b ∷ []) = b == 0x38
is_link_code (b ∷ c ∷ bs) = false

-- the parts of the address of a command that has these parts, and no other reading; none if it is
-- no link
abbrev pub address_in : List (List ℕ) → List (List ℕ)
address_in [] = []
address_in (p ∷ []) = []
address_in (p ∷ q ∷ us) = if is_link_code p then us else []

abbrev pub has_parts : List (List ℕ) → Bool
has_parts [] = false
has_parts (u ∷ us) = true

-- these parts, with `;` between them, are an address, and not an empty text
abbrev pub is_address : List (List ℕ) → Bool
is_address [] = false
is_address (u ∷ []) = not (is_empty u)
is_address (u ∷ w ∷ us) = true
