-- C0 controls and DEL, by their codes.
use Rattle.std.specs.Prelude.{ℕ, ◌+◌, ◌-◌, Bool, true, false, List, [], map, get_or, Option, Some, None}
use Rattle.control_functions.specs.Rows.{first_keyed}
use Rattle.control_functions.specs.declared.c0.C0.{C0}
use Rattle.control_functions.specs.declared.c0.C0.TheVariants as variant
use Rattle.control_functions.specs.declared.c0_table.TheConstants.{NAMES, ROWS, WORDS}
use Rattle.control_functions.specs.contracts.c0.C0.{the_type}
use denote.Enum.Declared.{tag_of}

-- the place of a control's row: controls and rows are in one order
unfoldable pub place : C0 → ℕ
place c = tag_of the_type c

-- the key of a control, which its row has: 256 and its code
unfoldable pub key_of : C0 → ℕ
key_of c = get_or (map (λ r. r.key) ROWS) (place c) 0

abbrev pub code_of : C0 → ℕ
code_of c = key_of c - 256

-- its name, and its meaning in words
unfoldable pub name_of : C0 → List ℕ
name_of c = get_or (map (λ n. n.now) NAMES) (place c) []

unfoldable pub words_of : C0 → List ℕ
words_of c = get_or (map (λ w. w.now) WORDS) (place c) []

-- the control of a code
unfoldable pub control_of : ℕ → Option C0
control_of n = first_keyed (λ r. r.key) (λ r. r.function) ROWS (256 + n)

-- those that change the screen alone
unfoldable pub changes_screen : C0 → Bool
changes_screen variant.BS = true
changes_screen variant.HT = true
changes_screen variant.LF = true
changes_screen variant.VT = true
changes_screen variant.FF = true
changes_screen variant.CR = true
changes_screen _ = false

-- there is a control, and it changes the screen alone
abbrev pub is_screen : Option C0 → Bool
is_screen None = false
is_screen (Some c) = changes_screen c

-- the control that a terminal answers
unfoldable pub is_answered : C0 → Bool
is_answered variant.ENQ = true
is_answered _ = false
