-- Events of bytes, and the parser after them.
use Rattle.std.specs.Prelude.{ℕ, ◌≡◌, Bool, true, not, ◌&&◌, List, [], length, take, Option, Some}
use Rattle.std.specs.List.{list_all}
use Rattle.std.specs.Str.{chars, IsUtf8}
use Rattle.esc_values.specs.Clear.{is_clear}
use Rattle.esc_frame.specs.Classes.{ends_escape, opens}
use Rattle.esc_frame.specs.declared.classes.Class.{Class}
use Rattle.esc_frame.specs.Leads.{Unfinished}
use Rattle.esc_frame.specs.Leads.Unfinished.{Ground}
use Rattle.esc_frame.specs.Machine.Moves.{after_all, events_all}
use Rattle.heapless_parser.specs.declared.event.EscEvent.{EscEvent}
use Rattle.heapless_parser.specs.declared.parser.EscParser.{EscParser}
use Rattle.heapless_parser.specs.States.{KeptIn}
use Rattle.heapless_parser.specs.Emitted.{sent_events, said_events, emitted_by}

-- the bytes are well-formed, and have no controls
abbrev pub IsTextRun : List ℕ → Type 0
IsTextRun x = IsUtf8 x × (list_all is_clear (chars x) ≡ true)

-- In ground these bytes emit the events of this one, whatever the limit, and leave nothing
-- unfinished.
abbrev pub EmitsEvent : EscEvent → List ℕ → Type 0
EmitsEvent e x = (after_all Ground x ≡ Ground)
    × ((limit : Option ℕ) (out : List ℕ) → sent_events e out ≡ events_all limit Ground x)

-- From the one parser to the other these bytes were taken, under this limit: the later one keeps
-- the unfinished segment after them, and the event says what they emit.
abbrev pub Notes : EscParser → EscParser → EscEvent → List ℕ → ℕ → List ℕ → Type 0
Notes old new e out limit x =
    (u : Unfinished) (memory : List ℕ) → length memory ≡ limit → KeptIn old memory u
    → KeptIn new memory (after_all u x) × (sent_events e out ≡ events_all (Some limit) u x)

-- the same holds of any event, and a run begins at the first of the bytes of the call
abbrev pub Emits : EscParser → EscParser → EscEvent → List ℕ → ℕ → List ℕ → List ℕ → Type 0
Emits old new e out limit bytes x =
    (u : Unfinished) (memory : List ℕ) → length memory ≡ limit → KeptIn old memory u
    → KeptIn new memory (after_all u x)
    × (emitted_by e out (take e.length bytes) ≡ events_all (Some limit) u x)

-- The same holds, and the memory changes from the one to the other.
abbrev pub Steps : EscParser → EscParser → EscEvent → List ℕ → List ℕ → List ℕ → List ℕ → Type 0
Steps old new e out before after x =
    (u : Unfinished) → KeptIn old before u
    → KeptIn new after (after_all u x) × (sent_events e out ≡ events_all (Some (length before)) u x)

-- the same holds of an event and the queued one
abbrev pub Gives : EscParser → EscParser → EscEvent → List ℕ → List ℕ → List ℕ → List ℕ → Type 0
Gives old new e out before after x =
    (u : Unfinished) → KeptIn old before u
    → KeptIn new after (after_all u x)
    × (said_events e out new.queued_kind new.queued_value ≡ events_all (Some (length before)) u x)

-- The same holds of bytes that emit nothing.
abbrev pub PassesIn : EscParser → EscParser → List ℕ → List ℕ → List ℕ → Type 0
PassesIn old new before after x =
    (u : Unfinished) → KeptIn old before u
    → KeptIn new after (after_all u x) × (events_all (Some (length before)) u x ≡ [])

-- the same holds, and the memory stays
abbrev pub Passes : EscParser → EscParser → List ℕ → Type 0
Passes old new x = (memory : List ℕ) → PassesIn old new memory memory x

-- the queued event, and whether the parser failed, are as before
abbrev pub IsDueAs : EscParser → EscParser → Type 0
IsDueAs new old = (new.queued_kind ≡ old.queued_kind) × (new.queued_value ≡ old.queued_value)
    × (new.has_failed ≡ old.has_failed)

-- the class ends an escape sequence of an ESC alone: 30 to 7E but for the letters that open a
-- string or a control sequence
abbrev pub closes_escape : Class → Bool
closes_escape c = ends_escape c && not (opens c)

-- The parser is as before but for the body of a control sequence.
abbrev pub IsBodyChange : EscParser → EscParser → Type 0
IsBodyChange new old = new ≡ record old {
  form = new.form;
  count = new.count;
  csi_params = new.csi_params;
  is_truncated = new.is_truncated;
  is_open = new.is_open;
  number = new.number;
}
