-- The events of a step, as they are noted.
use Rattle.std.specs.Prelude.{ℕ, ◌≡◌, ◌≢◌, ◌≤◌, ◌<◌, Bool, true, false, List, [], ◌∷◌, ◌++◌, length}
use Rattle.esc_values.specs.Clear.{semicolon_list}
use Rattle.esc_frame.specs.Events.{Event}
use Rattle.esc_frame.specs.Events.Event.{Print, Execute, EscDispatch, CsiDispatch, OscDispatch, DcsHook, ApcDispatch}
use Rattle.heapless_parser.specs.declared.event.EscEvent.{EscEvent}
use Rattle.heapless_parser.specs.declared.event.TheConstants.{NONE, FAILED}
use Rattle.heapless_parser.specs.Emitted.{said_events, is_run}

-- The arrays of an event, and a room of this length for a text, hold the event. For the header of a
-- device control string this speaks of the arrays alone.
abbrev pub HasRoom : ℕ → Event → Type 0
HasRoom place (EscDispatch is more f) = length is ≤ 2
HasRoom place (CsiDispatch es more f) = length es ≤ 256
HasRoom place (OscDispatch ps) = length (semicolon_list ps) ≤ place
HasRoom place (DcsHook f ns is more) = length is ≤ 2
HasRoom place (ApcDispatch t) = length t ≤ place
HasRoom place _ = Unit {0}

-- a character or a control, which can be handed out after another event
abbrev pub can_wait : Event → Bool
can_wait (Print c) = true
can_wait (Execute b) = true
can_wait _ = false

-- there is no event, or one that has room and after it at most a character or a control
abbrev pub AreNotable : ℕ → List Event → Type 0
AreNotable place [] = Unit {0}
AreNotable place (e ∷ []) = HasRoom place e
AreNotable place (e ∷ d ∷ []) = HasRoom place e × (can_wait d ≡ true)
AreNotable place _ = ⊥

-- An event came, and the noted event, the queued one, and whether an event was lost, became these.
-- If none was lost, it was added to the events so far. A first event that has room is not lost, nor
-- is a character or a control after it.
abbrev pub Adds : ℕ → EscEvent → List ℕ → ℕ → ℕ → Bool → Event → EscEvent → List ℕ → ℕ → ℕ → Bool
    → Type 0
Adds place e o k v lost x f p j w gone =
    (gone ≡ false → (lost ≡ false) × (said_events f p j w ≡ said_events e o k v ++ x ∷ []))
    × (is_run e.kind ≡ false → is_run f.kind ≡ false)
    × (e.kind < FAILED → f.kind < FAILED)
    × (e.count ≤ 256 → f.count ≤ 256)
    × (e.kept ≤ 2 → f.kept ≤ 2)
    × (e.length ≤ place → f.length ≤ place)
    × (HasRoom place x → lost ≡ false → e.kind ≡ NONE → k ≡ NONE
    → (gone ≡ false) × (f.kind ≢ NONE) × (j ≡ NONE))
    × (can_wait x ≡ true → lost ≡ false → e.kind ≢ NONE → k ≡ NONE
    → (gone ≡ false) × (f.kind ≢ NONE))

-- the event is no run and no failure, and its counts and its text are within bounds
abbrev pub IsSound : EscEvent → ℕ → Type 0
IsSound e place =
    (is_run e.kind ≡ false) × (e.kind < FAILED) × (e.count ≤ 256) × (e.kept ≤ 2)
    × (e.length ≤ place)

-- A step from a sound state gives a sound event, and if it gives none, nothing is queued.
abbrev pub GivesSound : EscEvent → ℕ → ℕ → Type 0
GivesSound e queued place = IsSound e place × (e.kind ≡ NONE → queued ≡ NONE)
