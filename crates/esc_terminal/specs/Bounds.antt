-- How many rows a stream scrolls off, how wide they are, and the numbers of their colours.
use Rattle.std.specs.Prelude.{ℕ, ◌≡◌, ◌≤◌, ◌<◌, ◌+◌, ◌*◌, List, [], ◌∷◌, length}
use Rattle.std.specs.List.{All}
use Rattle.esc_actions.specs.Values.{Value}
use Rattle.esc_screen.specs.Grids.{Size}
use Rattle.esc_style.specs.declared.color.Color.{Color}
use Rattle.esc_style.specs.declared.color.Color.TheVariants as color
use Rattle.esc_style.specs.declared.look.Look.{Look}
use Rattle.esc_terminal.specs.Scrolled.{Row, off_after}
use Rattle.esc_terminal.specs.Streams.{first_shown, shown_after}

-- the numbers of a colour are bytes
abbrev pub IsColor : Color → Type 0
IsColor color.Default = Unit {0}
IsColor (color.Named c) = Unit {0}
IsColor (color.Palette n) = n < 256
IsColor (color.Direct c) = (c.0 < 256) × (c.1 < 256) × (c.2 < 256)

-- and those of the colours of a look
abbrev pub IsLook : Look → Type 0
IsLook l = IsColor l.foreground × IsColor l.background × IsColor l.underline_color

abbrev pub AreLooks : List Look → Type 0
AreLooks [] = Unit {0}
AreLooks (l ∷ ls) = IsLook l × AreLooks ls

-- a row of as many cells as the screen has columns, which have such looks
abbrev pub IsRow : Size → Row → Type 0
IsRow z r = (length r.0 ≡ z.columns) × AreLooks r.1.looks

-- so many rows are the most that a value scrolls off: SU all of the screen, and REP one for each
-- column
abbrev pub value_most : Size → ℕ
value_most z = z.rows + z.columns

-- each value scrolls off at most as many, and each row is as wide as the screen; its looks have
-- colours whose numbers are bytes, as all that are known then
abbrev pub ScrollsFew : Type 0 → Type 0
ScrollsFew A = (z : Size) (vs : List (Value A)) → 0 < z.rows → 0 < z.columns
    → (length (off_after z (first_shown z) vs) ≤ length vs * value_most z)
    × All (IsRow z) (off_after z (first_shown z) vs)
    × AreLooks (shown_after z (first_shown z) vs).known.looks
