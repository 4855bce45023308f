-- Events of the bytes that come first, noted without a machine.
use Rattle.std.specs.Prelude.{ℕ, ◌≡◌, ◌≢◌, ◌≤◌, ◌<◌, Bool, true, false, List, [], length, take, Some}
use Rattle.std.specs.Str.{IsUtf8}
use Rattle.esc_frame.specs.Changed.{Changed}
use Rattle.esc_frame.specs.Leads.{Unfinished}
use Rattle.esc_frame.specs.Machine.Moves.{after_all, events_all}
use Rattle.heapless_parser.specs.declared.event.EscEvent.{EscEvent}
use Rattle.heapless_parser.specs.declared.event.TheConstants.{NONE, TEXT, FAILED}
use Rattle.heapless_parser.specs.declared.numbers.TheConstants.{GROUND}
use Rattle.heapless_parser.specs.declared.parser.EscParser.{EscParser}
use Rattle.heapless_parser.specs.Emitted.{emitted_events, emitted_by, is_run, queued_of}
use Rattle.heapless_parser.specs.Runs.{Emits, EmitsEvent, IsTextRun}
use Rattle.heapless_parser.specs.States.{KeptIn}

-- The event is as before but for its parameters.
abbrev pub IsParamsChange : EscEvent → EscEvent → Type 0
IsParamsChange new old = new ≡ record old { csi_params = new.csi_params }

-- The counts of an event and its places are within the arrays, the room and the `taken` bytes. A
-- run begins at the first of them.
pub record Fits (e : EscEvent) (room : ℕ) (bytes : List ℕ) (taken : ℕ) : Type 0 where
  -- the event has a place for each parameter and intermediate
  pub within : (e.count ≤ 256) × (e.kept ≤ 2)
  -- a text is within the room
  pub text : is_run e.kind ≡ false → e.length ≤ room
  -- a run lies within the bytes that were taken
  pub run : is_run e.kind ≡ true → e.length ≤ taken
  -- a run of characters is UTF-8
  pub utf8 : e.kind ≡ TEXT → IsUtf8 (take e.length bytes)

-- The first `taken` bytes are an event, whose text has this much room.
pub record NotesFirst (event : Changed EscEvent) (room : ℕ) (bytes : List ℕ) (taken : ℕ)
    : Type 0 where
  -- no more bytes are taken than there are
  pub few : taken ≤ length bytes
  -- if none are taken, nothing is noted
  pub none : taken ≡ 0 → IsParamsChange event.exit.now event.entry.now
  -- if some are, an event is noted
  pub some : 0 < taken → (event.exit.now.kind ≢ NONE) × (event.exit.now.kind < FAILED)
  -- its counts and its places are within bounds
  pub fits : Fits event.exit.now room bytes taken

-- The first `taken` bytes are a run of characters or of data in the parser's state.
pub record NotesRun (parser : EscParser) (event : Changed EscEvent) (bytes : List ℕ) (taken : ℕ)
    : Type 0 where
  -- no more bytes are taken than there are
  pub few : taken ≤ length bytes
  -- if none are taken, nothing is noted
  pub none : taken ≡ 0 → event.exit.now ≡ event.entry.now
  -- if some are, a run is noted
  pub some : 0 < taken → (event.exit.now.kind ≢ NONE) × (event.exit.now.kind < FAILED)
      × (is_run event.exit.now.kind ≡ true)
  -- the run is these bytes, and the other counts stay
  pub within : (event.exit.now.count ≡ event.entry.now.count)
      × (event.exit.now.kept ≡ event.entry.now.kept)
      × (event.exit.now.start ≡ event.entry.now.start)
      × (0 < taken → event.exit.now.length ≡ taken)
  -- a run of characters is UTF-8
  pub utf8 : event.exit.now.kind ≡ TEXT → IsUtf8 (take event.exit.now.length bytes)
  -- the same is unfinished after it
  pub kept : 0 < taken → (u : Unfinished) (memory : List ℕ) → KeptIn parser memory u
      → KeptIn parser memory (after_all u (take taken bytes))
  -- the event says what is emitted
  pub emitted : 0 < taken → (u : Unfinished) (memory out : List ℕ) → KeptIn parser memory u
      → emitted_by event.exit.now out (take event.exit.now.length bytes)
      ≡ events_all (Some (length memory)) u (take taken bytes)

-- The first `taken` bytes are a control or a short control sequence in ground.
pub record NotesQuick (event : Changed EscEvent) (bytes : List ℕ) (taken : ℕ) : Type 0 where
  -- no more bytes are taken than there are
  pub few : taken ≤ length bytes
  -- if none are taken, nothing is noted
  pub none : taken ≡ 0 → IsParamsChange event.exit.now event.entry.now
  -- the event has the text and the intermediates that it had
  pub within : (event.exit.now.kept ≡ event.entry.now.kept)
      × (event.exit.now.length ≡ event.entry.now.length)
      × (event.exit.now.start ≡ event.entry.now.start)
  -- the event says what is emitted, and nothing is unfinished
  pub emits : 0 < taken → EmitsEvent event.exit.now (take taken bytes)

-- The same holds, and if any are taken, the parser is in ground.
pub record NotesInGround (parser : EscParser) (event : Changed EscEvent) (bytes : List ℕ)
    (taken : ℕ) : Type 0 where
  pub notes : NotesQuick event bytes taken
  -- if some are taken, an event is noted, and it is no run
  pub some : 0 < taken → (event.exit.now.kind ≢ NONE) × (event.exit.now.kind < FAILED)
      × (is_run event.exit.now.kind ≡ false)
  -- the event has a place for each parameter
  pub count : event.exit.now.count ≤ 256
  pub ground : 0 < taken → (parser.state ≡ GROUND) × (parser.pending ≡ 0)

-- The first `taken` bytes are a run of characters or a control in ground.
pub record NotesPlain (event : Changed EscEvent) (bytes : List ℕ) (taken : ℕ) : Type 0 where
  -- no more bytes are taken than there are
  pub few : taken ≤ length bytes
  -- if none are taken, nothing is noted
  pub none : taken ≡ 0 → event.exit.now ≡ event.entry.now
  -- if some are, an event is noted, without parameters and intermediates
  pub some : 0 < taken → (event.exit.now.kind ≢ NONE) × (event.exit.now.kind < FAILED)
      × (event.exit.now.count ≡ 0) × (event.exit.now.kept ≡ 0) × (event.exit.now.start ≡ 0)
  -- a run is all of these bytes
  pub text : 0 < taken → event.exit.now.kind ≡ TEXT
      → (event.exit.now.length ≡ taken) × IsTextRun (take taken bytes)
  -- a control has no text
  pub control : 0 < taken → event.exit.now.kind ≢ TEXT
      → (is_run event.exit.now.kind ≡ false) × (event.exit.now.length ≡ 0)
  -- the event says what is emitted, whatever the limit, and nothing is unfinished
  pub emits : 0 < taken → (p : EscParser) (out : List ℕ) (limit : ℕ) → p.state ≡ GROUND
      → p.pending ≡ 0 → Emits p p event.exit.now out limit bytes (take taken bytes)

-- The queued character or control was handed out, or there was none.
pub record GivesQueued (parser : Changed EscParser) (event : Changed EscEvent)
    (is_given : Bool) : Type 0 where
  -- the event says it
  pub emitted : (out bytes : List ℕ) → emitted_events event.exit.now out bytes
      ≡ queued_of parser.entry.now.queued_kind parser.entry.now.queued_value
  -- nothing is queued any more
  pub queued : queued_of parser.exit.now.queued_kind parser.exit.now.queued_value ≡ []
  -- the same is unfinished
  pub kept : (memory : List ℕ) (u : Unfinished) → KeptIn parser.entry.now memory u
      → KeptIn parser.exit.now memory u
  -- the parser has failed if it had
  pub failed : parser.exit.now.has_failed ≡ parser.entry.now.has_failed
  -- if an event is handed out, it is one of a parser that has not failed, and no run
  pub some : is_given ≡ true → (event.exit.now.kind ≢ NONE) × (event.exit.now.kind < FAILED)
      × (is_run event.exit.now.kind ≡ false)
  -- the event has the counts and the text that it had
  pub within : (event.exit.now.count ≡ event.entry.now.count)
      × (event.exit.now.kept ≡ event.entry.now.kept)
      × (event.exit.now.length ≡ event.entry.now.length)
  -- it was queued
  pub was : is_given ≡ true
      → queued_of parser.entry.now.queued_kind parser.entry.now.queued_value ≢ []
  -- else there is no event
  pub none : is_given ≡ false → event.exit.now.kind ≡ NONE
