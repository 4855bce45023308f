-- The promises of a step of the machine, over the references that a call is lent.
use Rattle.std.specs.Prelude.{ℕ, ◌≡◌, ◌≤◌, ◌<◌, Bool, false, List, length, take, Some}
use Rattle.std.specs.Borrow.{GName}
use Rattle.esc_frame.specs.Changed.{Changed}
use Rattle.esc_frame.specs.declared.machine.State.{State}
use Rattle.esc_frame.specs.Leads.{Unfinished}
use Rattle.esc_frame.specs.Machine.Moves.{after_all, events_all}
use Rattle.heapless_parser.specs.declared.event.EscEvent.{EscEvent}
use Rattle.heapless_parser.specs.declared.named.Named.{Ghosts as Names}
use Rattle.heapless_parser.specs.declared.parser.EscParser.{EscParser}
use Rattle.heapless_parser.specs.declared.step.Borrow.{Borrow}
use Rattle.heapless_parser.specs.Emitted.{is_run, said_events}
use Rattle.heapless_parser.specs.Next.{Halves}
use Rattle.heapless_parser.specs.Noted.{GivesSound, IsSound}
use Rattle.heapless_parser.specs.Numbers.{state_numbered}
use Rattle.heapless_parser.specs.States.{BodyIn, FirstIn, HeaderIn, KeptIn, begun_in}

-- A step took the first `taken` bytes, and noted this event in the place of the one before; or it
-- failed.
pub record TakesStep (parser : Changed EscParser) (old new : Halves) (before event : EscEvent)
    (bytes : List ℕ) (taken : ℕ) (has_failed : Bool) : Type 0 where
  -- no more bytes are taken than there are
  pub few : taken ≤ length bytes
  -- a step that did not fail took some
  pub some : has_failed ≡ false → 0 < taken
  -- parser and memory keep the unfinished segment after these bytes
  pub kept : (u : Unfinished) → KeptIn parser.entry.now old.memory u → has_failed ≡ false
      → KeptIn parser.exit.now new.memory (after_all u (take taken bytes))
  -- the event, with the queued one, says what is emitted
  pub emitted : (u : Unfinished) → KeptIn parser.entry.now old.memory u → has_failed ≡ false
      → said_events event new.out parser.exit.now.queued_kind parser.exit.now.queued_value
      ≡ events_all (Some (length old.memory)) u (take taken bytes)
  -- the event is no run
  pub run : (u : Unfinished) → KeptIn parser.entry.now old.memory u → has_failed ≡ false
      → is_run event.kind ≡ false
  -- from a sound state it does not fail, if a kept text has room
  pub sound : (u : Unfinished) → KeptIn parser.entry.now old.memory u
      → length old.memory ≤ length old.out → IsSound before (length old.out)
      → (has_failed ≡ false) × GivesSound event parser.exit.now.queued_kind (length old.out)
  -- the parser has failed if it had
  pub failed : parser.exit.now.has_failed ≡ parser.entry.now.has_failed

-- The room of the text that is handed out, and the event, are lent under these names, and the room
-- has this length.
pub record IsLentToNote {S : Type 0} (N : Names S) (out event : GName) (place : ℕ) : Type 0 where
  pub text : out ≡ N.out
  pub size : place ≡ N.place
  pub noted : event ≡ N.event

-- The same holds, and the memory that keeps an unfinished string is lent, of this length.
pub record IsLentToStep {S : Type 0} (N : Names S) (kept out event : GName) (room place : ℕ)
    : Type 0 where
  pub memory : kept ≡ N.kept
  pub size : room ≡ N.room
  pub noting : IsLentToNote N out event place

-- The references of these names are given back, and the memory is as long as it was.
pub record IsGivenBack (kept : GName) (room : ℕ) (out event : GName) (borrow : Borrow)
    : Type 0 where
  pub memory : borrow.memory.ghost_name ≡ kept
  pub size : length borrow.memory.now ≡ room
  pub text : borrow.out.ghost_name ≡ out
  pub noted : borrow.event.ghost_name ≡ event

-- The parser is in this state, with these bytes of a character that have come, and this length of a
-- kept text.
pub record IsPlacedAt (p : EscParser) (s : State) (x : List ℕ) (count : ℕ) (is_over : Bool)
    : Type 0 where
  pub state : state_numbered p.state ≡ s
  pub begun : begun_in p ≡ x
  pub text : p.text ≡ count
  -- the number says whether the string is past the limit
  pub over : p.is_over ≡ is_over

-- The kept part of a sequence or a header stays.
pub record KeepsParts (parser : Changed EscParser) : Type 0 where
  pub first : (x : List ℕ) → FirstIn parser.entry.now x → FirstIn parser.exit.now x
  pub header : (x : List ℕ) → HeaderIn parser.entry.now x → HeaderIn parser.exit.now x
  pub body : (x : List ℕ) → BodyIn parser.entry.now x → BodyIn parser.exit.now x
