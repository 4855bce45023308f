-- Private modes.
use Rattle.std.specs.Prelude.{ℕ, Bool, true, false, ◌==◌, List, [], ◌∷◌, map, get_or, Option, Some, None}
use Rattle.std.specs.List.{list_any}
use Rattle.control_functions.specs.Rows.{first_keyed}
use Rattle.control_functions.specs.declared.private_mode.PrivateMode.{PrivateMode}
use Rattle.control_functions.specs.declared.private_mode.PrivateMode.TheVariants as variant
use Rattle.control_functions.specs.declared.private_mode_table.TheConstants.{NAMES, ROWS, WORDS}
use Rattle.control_functions.specs.contracts.private_mode.PrivateMode.{the_type}
use denote.Enum.Declared.{tag_of}

-- the place of a mode's row: modes and rows are in one order
unfoldable pub place : PrivateMode → ℕ
place m = tag_of the_type m

-- the number of a mode, which its row has
unfoldable pub number_of : PrivateMode → ℕ
number_of m = get_or (map (λ r. r.number) ROWS) (place m) 0

-- its name, and the setting that is set and reset, in words
unfoldable pub name_of : PrivateMode → List ℕ
name_of m = get_or (map (λ n. n.now) NAMES) (place m) []

unfoldable pub words_of : PrivateMode → List ℕ
words_of m = get_or (map (λ w. w.now) WORDS) (place m) []

-- the mode of a number
unfoldable pub mode_of : ℕ → Option PrivateMode
mode_of n = first_keyed (λ r. r.number) (λ r. r.mode) ROWS n

-- those that change the screen alone
unfoldable pub changes_screen : PrivateMode → Bool
changes_screen variant.DECSCNM = true
changes_screen variant.DECOM = true
changes_screen variant.DECAWM = true
changes_screen variant.BlinkingCursor = true
changes_screen variant.DECTCEM = true
changes_screen variant.DECGRPM = true
changes_screen variant.DECLRMM = true
changes_screen variant.ClearedAlternateScreen = true
changes_screen variant.SavedCursor = true
changes_screen variant.AlternateScreenWithCursor = true
changes_screen variant.SynchronizedOutput = true
changes_screen _ = false

-- there is a mode, and it changes the screen alone
abbrev pub is_screen : Option PrivateMode → Bool
is_screen None = false
is_screen (Some m) = changes_screen m

-- their numbers
abbrev pub screen_numbers : List ℕ
screen_numbers = 5 ∷ 6 ∷ 7 ∷ 12 ∷ 25 ∷ 47 ∷ 69 ∷ 1047 ∷ 1048 ∷ 1049 ∷ 2026 ∷ []

abbrev pub is_listed : ℕ → Bool
is_listed n = list_any (λ k. n == k) screen_numbers
