-- Runs of cells of one look, each with one character of ASCII.
use Rattle.std.specs.Prelude.{ℕ, ◌≡◌, Bool, true, nat_le, nat_lt, ◌&&◌, List, [], ◌∷◌, ◌++◌, Some}
use Rattle.esc_screen.specs.declared.cell.Cell.{Cell}
use Rattle.esc_screen.specs.declared.content.Content.{Content}
use Rattle.esc_screen.specs.declared.content.Content.TheVariants as content
use Rattle.screen_lines.specs.Parts.{more_room}
use Rattle.screen_lines.specs.Rows.{mark_parts}
use Rattle.screen_lines.specs.declared.going.Going.{Going}
use Rattle.screen_lines.specs.declared.ink.Ink.{Ink}

-- a character from U+0020 to U+007E
abbrev pub is_plain_char : ℕ → Bool
is_plain_char c = nat_le 0x20 c && nat_lt c 0x7f

-- this one stands there, without marks
abbrev pub HoldsAlone : ℕ → Content → Type 0
HoldsAlone b (content.Narrow c m) = (c ≡ b)
    × (mark_parts m.first ++ mark_parts m.second ≡ [])
HoldsAlone b _ = ⊥

-- a cell of this look has it
abbrev pub IsPlain : ℕ → ℕ → Cell → Type 0
IsPlain n b x = (is_plain_char b ≡ true) × (HoldsAlone b x.content × (x.look ≡ n))

-- the cells begin with these characters, in this look
abbrev pub BeginWith : ℕ → List ℕ → List Cell → Type 0
BeginWith n [] xs = Unit {0}
BeginWith n (b ∷ bs) [] = ⊥
BeginWith n (b ∷ bs) (x ∷ xs) = IsPlain n b x × BeginWith n bs xs

-- the place after a character of this look
abbrev pub going_on : ℕ → Going
going_on n = record { held = Some n; blanks = 0 }

-- after these characters
abbrev pub ink_after : Ink → List ℕ → Ink
ink_after i [] = i
ink_after i (b ∷ bs) = ink_after (record i { last = Some b; room = more_room i.room }) bs
