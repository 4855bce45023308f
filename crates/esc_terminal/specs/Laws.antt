-- Laws of every stream.
use Rattle.std.specs.Prelude.{ℕ, ◌≡◌, ◌<◌, List, ◌++◌, Some}
use Rattle.esc_actions.specs.Meaning.{yield_within}
use Rattle.esc_screen.specs.Grids.{Size}
use Rattle.esc_screen.specs.Halves.{HasWholeRows}
use Rattle.esc_screen.specs.Sound.{IsSound}
use Rattle.esc_terminal.specs.Fed.{HasConsumed, Stands}
use Rattle.esc_terminal.specs.Streams.{shown_after, shown_of}
use Rattle.esc_terminal.specs.declared.terminal.Terminal.{Terminal}

-- the grid is one that a screen can have
abbrev pub IsAlwaysSound : Type 0 → Type 0
IsAlwaysSound A = (z : Size) (s : List ℕ) → 0 < z.rows → 0 < z.columns
    → IsSound z (shown_of A z s).grid

-- no half of a wide character stands alone
abbrev pub IsAlwaysWhole : Type 0 → Type 0
IsAlwaysWhole A = (z : Size) (s : List ℕ) → 0 < z.rows → 0 < z.columns
    → HasWholeRows (shown_of A z s).grid

-- the bytes after a stream go on from the screen that is shown of it
abbrev pub GoesOn : Type 0 → Type 0
GoesOn A = (z : Size) (s b : List ℕ) → shown_of A z (s ++ b)
    ≡ shown_after z (shown_of A z s) (yield_within {A = A} (Some 0x1000) s b)

-- a terminal that was fed a stream shows that
abbrev pub StandsAt : Type 0 → Type 0
StandsAt A = (z : Size) (s : List ℕ) (t : Terminal A) → HasConsumed z s t
    → Stands z (shown_of A z s) s t
