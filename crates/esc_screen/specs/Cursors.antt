-- Cursors, modes, tab stops and characters of line drawing.
use Rattle.std.specs.Prelude.{ℕ, zero, suc, ◌+◌, ◌-◌, ◌%◌, ◌==◌, nat_lt, min, Bool, true, false, if◌then◌else◌, List, [], ◌∷◌, drop, get_or}
use Rattle.esc_screen.specs.declared.cursor.Cursor.{Cursor}
use Rattle.esc_screen.specs.declared.drawing.TheConstants.{DRAWING}
use Rattle.esc_screen.specs.declared.mode.Mode.{Mode}
use Rattle.esc_screen.specs.declared.mode.Mode.TheVariants as mode
use Rattle.esc_screen.specs.declared.modes.Modes.{Modes}

-- ---- cursors

abbrev pub home : Cursor
home = record {
  row = 0;
  column = 0;
  pending = false;
  look = 0;
  erased = 0;
  origin = false;
  g0_draws = false;
  g1_draws = false;
  shifted = false;
}

abbrev pub softly_reset : Cursor → Cursor
softly_reset c = record c {
  look = 0;
  erased = 0;
  origin = false;
  g0_draws = false;
  g1_draws = false;
  shifted = false;
}

-- at a row and a column, with no wrap that is pending
abbrev pub at : ℕ → ℕ → Cursor → Cursor
at r n c = record c {
  row = r;
  column = n;
  pending = false;
}

-- at a column of so many, but not past the last: there a wrap is pending, where lines wrap
abbrev pub landed_cursor : ℕ → Bool → ℕ → Cursor → Cursor
landed_cursor columns wraps n c = if nat_lt n columns then record c { column = n }
    else record c {
      column = columns - 1;
      pending = wraps;
    }

-- ---- characters

-- whether characters are of the set of line drawing
abbrev pub draws : Cursor → Bool
draws c = if c.shifted then c.g1_draws else c.g0_draws

-- the character of a table of those from 5F on, and any other as it is
abbrev pub character_in : List ℕ → ℕ → ℕ
character_in t c = if nat_lt c 0x5f then c else get_or t (c - 0x5f) c

-- a character of the set of line drawing
abbrev pub line_drawing : ℕ → ℕ
line_drawing c = character_in DRAWING c

abbrev pub drawn_character : Cursor → ℕ → ℕ
drawn_character k c = if draws k then line_drawing c else c

-- ---- modes

abbrev pub first_modes : Modes
first_modes = record {
  wraps = true;
  inserts = false;
  new_line = false;
  reversed = false;
  shows_cursor = true;
  synchronized = false;
  columns = false;
}

abbrev pub softly_reset_modes : Modes → Modes
softly_reset_modes m = record m {
  wraps = true;
  inserts = false;
  shows_cursor = true;
}

abbrev pub with_mode : Mode → Bool → Modes → Modes
with_mode mode.AutoWrap b m = record m { wraps = b }
with_mode mode.Insert b m = record m { inserts = b }
with_mode mode.NewLine b m = record m { new_line = b }
with_mode mode.ReverseVideo b m = record m { reversed = b }
with_mode mode.ShowCursor b m = record m { shows_cursor = b }
with_mode mode.Synchronized b m = record m { synchronized = b }
with_mode mode.Columns b m = record m { columns = b }

-- ---- tab stops: for each column whether it is one

-- every eighth column from this one on
abbrev pub eighths : ℕ → List Bool → List Bool
eighths i [] = []
eighths i (b ∷ bs) = (i % 8 == 0) ∷ eighths (i + 1) bs

-- how many columns are before the first stop
abbrev pub before_stop : List Bool → ℕ
before_stop [] = 0
before_stop (b ∷ bs) = if b then 0 else before_stop bs + 1

-- the next stop after a column, or the last of so many columns
abbrev pub stop_after : ℕ → List Bool → ℕ → ℕ
stop_after columns bs n = min (n + 1 + before_stop (drop (n + 1) bs)) (columns - 1)

-- the last stop before a column, or the first column
abbrev pub stop_before : List Bool → ℕ → ℕ
stop_before bs zero = 0
stop_before bs (suc n) = if get_or bs n false then n else stop_before bs n
