-- The promises of the calls for the next event.
use Rattle.std.specs.Prelude.{ℕ, ◌≡◌, ◌≢◌, ◌≤◌, ◌<◌, true, false, List, [], ◌++◌, length, take, Some}
use Rattle.std.specs.Str.{IsUtf8}
use Rattle.esc_frame.specs.Changed.{Changed}
use Rattle.esc_frame.specs.Events.{Event}
use Rattle.esc_frame.specs.Leads.{Unfinished}
use Rattle.esc_frame.specs.Machine.Moves.{after_all, events_all}
use Rattle.heapless_parser.specs.declared.event.EscEvent.{EscEvent}
use Rattle.heapless_parser.specs.declared.event.TheConstants.{NONE, TEXT, FAILED, LIMIT}
use Rattle.heapless_parser.specs.declared.numbers.TheConstants.{GROUND}
use Rattle.heapless_parser.specs.declared.parser.EscParser.{EscParser}
use Rattle.heapless_parser.specs.Ahead.{Fits}
use Rattle.heapless_parser.specs.Limited.{IsLimited, AddsFewer}
use Rattle.heapless_parser.specs.States.{KeptIn, HasConsumed, lower, upper}
use Rattle.heapless_parser.specs.Emitted.{emitted_events, emitted_by, queued_of, placed_bytes, IsWithin}
use Rattle.heapless_parser.specs.Takes.{IsInRoom}

-- a buffer, by its halves: one keeps the unfinished string, and a text is copied to the other
pub record Halves : Type 0 where
  pub memory : List ℕ
  pub out : List ℕ

abbrev pub halves : List ℕ → Halves
halves buffer = record { memory = lower buffer; out = upper buffer }

abbrev pub both : List ℕ → List ℕ → Halves
both memory out = record { memory = memory; out = out }

-- the queued event, if there is one
abbrev pub queued_in : EscParser → List Event
queued_in p = queued_of p.queued_kind p.queued_value

-- A call for the next event took the first `taken` bytes.
pub record Next (parser : Changed EscParser) (old new : Halves) (bytes : List ℕ) (event : EscEvent)
    (taken : ℕ) : Type 0 where
  -- no more bytes are taken than there are
  pub few : taken ≤ length bytes
  -- the counts and places of the event are within bounds
  pub within : IsWithin event (length old.out) taken
  -- a run of characters is UTF-8
  pub utf8 : event.kind ≡ TEXT → IsUtf8 (placed_bytes event bytes)
  -- the parser is where it was, and these bytes further, and has handed out the event
  pub given : (s : List ℕ) (es : List Event) → HasConsumed s es parser.entry.now old.memory
      → event.kind ≢ FAILED
      → HasConsumed (s ++ take taken bytes)
      (es ++ emitted_events event new.out bytes) parser.exit.now
      new.memory
  -- if there is no event, all bytes were taken
  pub all : event.kind ≡ NONE → (taken ≡ length bytes) × (queued_in parser.exit.now ≡ [])
  -- a call that takes none of some bytes hands out the queued event, so the next one takes some
  pub moves : taken ≡ 0 → 0 < length bytes → event.kind ≢ FAILED
      → (queued_in parser.entry.now ≢ []) × (queued_in parser.exit.now ≡ [])
  -- if the event says that a string was past the limit, so it was
  pub limited : (s : List ℕ) (es : List Event) → HasConsumed s es parser.entry.now old.memory
      → event.kind ≡ LIMIT → AddsFewer (length old.memory) s (take taken bytes)
  -- a parser that has failed fails again
  pub failed : event.kind ≡ FAILED → parser.exit.now.has_failed ≡ true
  pub again : parser.entry.now.has_failed ≡ true → event.kind ≡ FAILED

-- The event is no failure if the parser may have been fed a stream: it was begun, and only called
-- with this memory, which nobody else wrote.
abbrev pub NeverFails : EscParser → List ℕ → EscEvent → Type 0
NeverFails p memory event =
    (s : List ℕ) (es : List Event) → HasConsumed s es p memory → event.kind ≢ FAILED

-- Nothing is queued, and nothing is noted of an event that is within its room.
pub record IsReady (parser : EscParser) (event : EscEvent) (room : ℕ) : Type 0 where
  pub none : event.kind ≡ NONE
  pub queued : queued_in parser ≡ []
  pub within : IsInRoom event room

-- A call of a parser that is ready took bytes up to their first event, or all of them.
pub record ToEvent (parser : Changed EscParser) (old new : Halves) (bytes : List ℕ)
    (event : EscEvent) (taken : ℕ) : Type 0 where
  pub few : taken ≤ length bytes
  pub within : IsWithin event (length old.out) taken
  pub utf8 : event.kind ≡ TEXT → IsUtf8 (placed_bytes event bytes)
  pub some : event.kind ≢ FAILED → 0 < length bytes → 0 < taken
  pub all : event.kind ≡ NONE → (taken ≡ length bytes) × (queued_in parser.exit.now ≡ [])
  -- parser and memory keep the unfinished segment, and the event and the queued one say what is
  -- emitted
  pub kept : (u : Unfinished) → KeptIn parser.entry.now old.memory u → event.kind ≢ FAILED
      → KeptIn parser.exit.now new.memory (after_all u (take taken bytes))
  pub says : (u : Unfinished) → KeptIn parser.entry.now old.memory u → event.kind ≢ FAILED
      → emitted_events event new.out bytes ++ queued_in parser.exit.now
      ≡ events_all (Some (length old.memory)) u (take taken bytes)
  pub limited : (u : Unfinished) → KeptIn parser.entry.now old.memory u
      → event.kind ≡ LIMIT → IsLimited (length old.memory) u (take taken bytes)
  pub failed : event.kind ≡ FAILED → parser.exit.now.has_failed ≡ true
  pub goes_on : event.kind ≢ FAILED → parser.exit.now.has_failed ≡ parser.entry.now.has_failed
  -- it never fails if the parser keeps the unfinished segment, and a kept text has room
  pub sound : (u : Unfinished) → KeptIn parser.entry.now old.memory u
      → length old.memory ≤ length old.out → event.kind ≢ FAILED

-- A call of a parser for which nothing is queued took bytes, from the first on, up to their first
-- event; a run begins at the first of them. After a failure nothing counts as taken.
pub record Advances (parser : Changed EscParser) (old new : Halves) (bytes : List ℕ)
    (event : EscEvent) (taken : ℕ) : Type 0 where
  -- no more bytes are taken than there are
  pub few : taken ≤ length bytes
  -- the counts and the places of the event are within bounds
  pub fits : Fits event (length old.out) bytes taken
  -- at least one byte is taken, unless it fails
  pub some : event.kind ≢ FAILED → 0 < taken
  -- parser and memory keep the unfinished segment after these bytes
  pub kept : (u : Unfinished) → KeptIn parser.entry.now old.memory u → event.kind ≢ FAILED
      → KeptIn parser.exit.now new.memory (after_all u (take taken bytes))
  -- the event, with the queued one, says what is emitted
  pub says : (u : Unfinished) → KeptIn parser.entry.now old.memory u → event.kind ≢ FAILED
      → emitted_by event new.out (take event.length bytes) ++ queued_in parser.exit.now
      ≡ events_all (Some (length old.memory)) u (take taken bytes)
  -- nothing is queued after no event
  pub queued : event.kind ≡ NONE → queued_in parser.exit.now ≡ []
  -- if the event says that a string was past the limit, so it was
  pub limited : (u : Unfinished) → KeptIn parser.entry.now old.memory u
      → event.kind ≡ LIMIT → IsLimited (length old.memory) u (take taken bytes)
  -- the parser notes a failure, and else has failed if it had
  pub failed : event.kind ≡ FAILED → parser.exit.now.has_failed ≡ true
  pub goes_on : event.kind ≢ FAILED → parser.exit.now.has_failed ≡ parser.entry.now.has_failed
  -- it never fails if the parser keeps the unfinished segment, and a kept text has room
  pub sound : (u : Unfinished) → KeptIn parser.entry.now old.memory u
      → length old.memory ≤ length old.out → event.kind ≢ FAILED

-- The parser is at the beginning of a segment, it has not failed, and nothing is queued.
abbrev pub IsPlain : EscParser → Type 0
IsPlain p = (p.has_failed ≡ false) × (p.queued_kind ≡ NONE) × (p.state ≡ GROUND) × (p.pending ≡ 0)
