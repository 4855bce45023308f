-- Modes that are entered, their bytes and their ends come in groups.
use Rattle.std.specs.Prelude.{ℕ, ◌≡◌, Bool, true, false, List, [], ◌∷◌, ◌++◌, map}
use Rattle.std.specs.List.{flat_map, list_any}
use Rattle.esc_device.specs.Writable.{AreData}
use Rattle.esc_device.specs.declared.enter.EnterDeviceControlMode.{EnterDeviceControlMode}
use Rattle.esc_frame.specs.Stream.{events}
use Rattle.esc_actions.specs.Meaning.{meaning, mode_from}
use Rattle.esc_actions.specs.Values.{Mode, Value, plain, entered, enter, datum, exit}
use Rattle.esc_actions.specs.Writable.{AreWritable, IsWritable, is_exception, is_within, stays_within}

-- each value is at a place that it may have; `from` and `to` say whether a mode is entered before
-- and after them
abbrev pub AreGrouped : {A : Type 0} → Bool → List (Value A) → Bool → Type 0
AreGrouped from [] to = from ≡ to
AreGrouped from (v ∷ vs) to = (is_within v ≡ from) × AreGrouped (stays_within v) vs to

abbrev pub is_entered : Mode → Bool
is_entered entered = true
is_entered _ = false

-- whether a stream ends inside a mode
abbrev pub ends_in_mode : List ℕ → Bool
ends_in_mode s = is_entered (mode_from plain (events s))

-- a stream none of whose values is an exception, and that does not end inside a mode, means a
-- writable list
abbrev pub MeansWritable : Type 0 → Type 0
MeansWritable A = (s : List ℕ) → list_any is_exception (meaning {A = A} s) ≡ false
    → ends_in_mode s ≡ false → AreWritable {A = A} (meaning s)

-- the values of any stream come in groups; the last is unfinished if the stream ends inside a mode
abbrev pub MeansGroups : Type 0 → Type 0
MeansGroups A = (s : List ℕ) → AreGrouped {A = A} false (meaning s) (ends_in_mode s)

-- a value by itself, or the header of a mode with the bytes and the end
pub data Group (A : Type 0) : Type 0 where
  single : Value A → Group A
  mode : EnterDeviceControlMode A → List ℕ → Group A

abbrev pub members : {A : Type 0} → Group A → List (Value A)
members (single v) = v ∷ []
members (mode e d) = enter e ∷ (map datum d ++ exit ∷ [])

abbrev pub IsWritableGroup : {A : Type 0} → Group A → Type 0
IsWritableGroup (single v) = IsWritable v × (is_within v ≡ false) × (stays_within v ≡ false)
IsWritableGroup (mode e d) = IsWritable (enter e) × AreData d

abbrev pub AreWritableGroups : {A : Type 0} → List (Group A) → Type 0
AreWritableGroups [] = Unit {0}
AreWritableGroups (g ∷ gs) = IsWritableGroup g × AreWritableGroups gs

-- writable single values and groups, joined
abbrev pub JoinsGroups : {A : Type 0} → List (Value A) → Type 0
JoinsGroups {A = A} vs = (gs : List (Group A)) × AreWritableGroups gs × (vs ≡ flat_map members gs)
