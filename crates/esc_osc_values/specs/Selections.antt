-- Sets of selections as bits, and their letters.
use Rattle.std.specs.Prelude.{ℕ, ◌==◌, if◌then◌else◌, ◌-◌, Option, Some, None, List, [], ◌∷◌, bit_and, bit_or}
use Rattle.std.specs.List.{flat_map}
use Rattle.esc_osc_values.specs.declared.selection.Selection.{Selection}

-- the named bits: 1 to 13
abbrev pub named_bits : ℕ
named_bits = 16382

-- the bits of a that b lacks, of 16
abbrev pub lacking : ℕ → ℕ → ℕ
lacking a b = bit_and a (65535 - b)

-- the bits and their letters, in the order in which they are written
abbrev pub letters : List (ℕ × ℕ)
letters = (2, 0x63) ∷ (4, 0x70) ∷ (8, 0x73) ∷ (16, 0x30) ∷ (32, 0x31) ∷ (64, 0x32) ∷ (128, 0x33)
    ∷ (256, 0x34) ∷ (512, 0x35) ∷ (1024, 0x36)
    ∷ (2048, 0x37) ∷ (4096, 0x38) ∷ (8192, 0x39) ∷ []

-- the letter, where the bit is there
abbrev pub letter_text : ℕ → ℕ × ℕ → List ℕ
letter_text b l = if bit_and b l.0 == 0 then [] else l.1 ∷ []

-- the letters of the bits b
abbrev pub selection_text : ℕ → List ℕ
selection_text b = flat_map (letter_text b) letters

-- the bit that a letter names, or 0
abbrev pub letter_bit_in : List (ℕ × ℕ) → ℕ → ℕ
letter_bit_in [] c = 0
letter_bit_in (l ∷ ls) c = if c == l.1 then l.0 else letter_bit_in ls c

abbrev pub letter_bit : ℕ → ℕ
letter_bit c = letter_bit_in letters c

-- the bits b and those of the letters; none where a byte is no letter
abbrev pub with_letters : ℕ → List ℕ → Option ℕ
with_letters b [] = Some b
with_letters b (c ∷ cs) =
    if letter_bit c == 0 then None else with_letters (bit_or b (letter_bit c)) cs

-- the bits that a text names; the empty text names SELECT and CUT0
abbrev pub selection_of : List ℕ → Option ℕ
selection_of [] = Some 24
selection_of (c ∷ cs) = with_letters 0 (c ∷ cs)

-- the selection of these bits
abbrev pub selection : ℕ → Selection
selection b = record { 0 = b }
