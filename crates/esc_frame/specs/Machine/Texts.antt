-- Texts of characters that are no controls, given one character at a time. Only private contracts
-- cite it.
use Rattle.std.specs.Prelude.{ℕ, ◌≡◌, ◌≤◌, ◌++◌, true, List, length, map, drop}
use Rattle.std.specs.List.{FoldsTo, list_all}
use Rattle.std.specs.Char.{encode_utf8}
use Rattle.std.specs.Str.{chars, IsUtf8}
use Rattle.esc_values.specs.Clear.{is_clear}
use Rattle.esc_frame.specs.Events.{Event}
use Rattle.esc_frame.specs.Events.Event.{Print}

-- a text without controls
abbrev pub IsClearText : List ℕ → Type 0
IsClearText x = IsUtf8 x × (list_all is_clear (chars x) ≡ true)

-- its first n bytes are this character
abbrev pub IsNext : List ℕ → ℕ → ℕ → Type 0
IsNext x c n = (x ≡ encode_utf8 c ++ drop n x) × (n ≤ length x)

-- the characters of the text before the rest were given
abbrev pub HasTaken : {S : Type 0} → (S → Event → S → Type 0) → List ℕ → List ℕ → S → S → Type 0
HasTaken takes text rest old new = (cs : List ℕ) × (chars text ≡ cs ++ chars rest)
    × FoldsTo takes old (map Print cs) new

-- those of its first n bytes, and the actor stays ready
abbrev pub HasSpelled : {S : Type 0} → (S → Event → S → Type 0) → (S → Type 0) → List ℕ → ℕ → S → S
    → Type 0
HasSpelled takes is_ready text n old new = (n ≤ length text) × IsClearText (drop n text)
    × HasTaken takes text (drop n text) old new × (is_ready old → is_ready new)
