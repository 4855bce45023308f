-- Runs in the text of an operating system command. No contract of `VTParser` cites it.
use Rattle.std.specs.Prelude.{ℕ, ◌≡◌, false, List, [], ◌++◌, slice_index, Option}
use Rattle.esc_frame.specs.Scans.{is_text_byte}
use Rattle.esc_frame.specs.Segments.{Opener, OscUnit, text_of}
use Rattle.esc_frame.specs.Leads.Unfinished.{InOsc}
use Rattle.esc_frame.specs.Machine.Characters.{NoneAhead}
use Rattle.esc_frame.specs.Machine.Moves.{after_all, events_all}

-- the bytes are whole units of the text, which keeps them as they are
abbrev pub IsTextRun : List ℕ → Type 0
IsTextRun x =
    (qs : List OscUnit) × (text_of qs ≡ x) × ((limit : Option ℕ) (o : Opener) (ps : List OscUnit)
    → (after_all (InOsc o ps) x ≡ InOsc o (ps ++ qs)) × (events_all limit (InOsc o ps) x ≡ []))

-- the bytes begin with no unit that the text keeps as it is: neither 20-7F nor a whole sequence
-- that is no control
abbrev pub NoUnitAhead : List ℕ → Type 0
NoUnitAhead rest = (is_text_byte (slice_index rest 0) ≡ false) × NoneAhead rest
