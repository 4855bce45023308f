-- The parts of a segment's bytes. Only private contracts cite it.
use Rattle.std.specs.Prelude.{ℕ, ◌≡◌, Bool, true, false, List, ◌++◌, Result}
use Rattle.esc_frame.specs.Bodies.{is_dcs_header}
use Rattle.esc_frame.specs.Classes.{without_noise}
use Rattle.esc_frame.specs.Events.{Event, Takes}
use Rattle.esc_frame.specs.Machine.Keeps.{KeepsDcs}
use Rattle.esc_frame.specs.declared.unfinished.header.DcsHeader.{DcsHeader}
use Rattle.esc_frame.specs.Segments.{Segment, OscUnit, Ending, HasShape, AreOscUnits, bytes_of, ending_bytes, events_of, is_finished, text_bytes, text_of}
use Rattle.esc_frame.specs.Segments.Ending.{Waits}

-- no sequence may go on
abbrev pub is_over : Ending → Bool
is_over (Waits f) = false
is_over _ = true

-- These bytes are left of the text of an OSC, and `after` follows the text: with the bytes that
-- were kept before, they keep t.
pub record IsLeft (kept bytes after t : List ℕ) : Type 0 where
  pub osc_units : List OscUnit
  pub ending : Ending
  pub over : is_over ending ≡ true
  pub whole : bytes ≡ text_bytes osc_units ++ ending_bytes ending
  pub each : AreOscUnits osc_units (ending_bytes ending ++ after)
  pub same : kept ++ text_of osc_units ≡ t

-- The header is that of these bytes without noise, which have its form.
pub record HoldsHeader (header : DcsHeader) (bytes : List ℕ) : Type 0 where
  pub kept : KeepsDcs header (without_noise bytes)
  pub formed : is_dcs_header (without_noise bytes) ≡ true

-- An actor was given the events of a segment of these bytes, which is finished or not, as told. The
-- call stopped by itself only if `own` holds.
abbrev pub Emits : {S E : Type 0} → Type 0 → (S → Event → S → Type 0) → (S → Event → S → Type 0)
    → Result (Unit {0}) E → S → S → List ℕ → Bool → Segment
    → Type 0
Emits own takes refuses result old new bytes finished g =
    (after : List ℕ) → HasShape g after → bytes ≡ bytes_of g → finished ≡ is_finished g after
    → Takes own takes refuses result old (events_of g finished) new
