-- The promises of calls that take a byte, or the bytes that come first.
use Rattle.std.specs.Prelude.{ℕ, ◌≡◌, ◌≢◌, ◌≤◌, ◌<◌, ◌⊎◌, Bool, true, false, List, [], ◌∷◌, ◌++◌, length, take}
use Rattle.esc_frame.specs.Changed.{Changed}
use Rattle.esc_frame.specs.Machine.Keeps.{parameters_of}
use Rattle.esc_frame.specs.Machine.Moves.{Move}
use Rattle.heapless_parser.specs.declared.event.EscEvent.{EscEvent}
use Rattle.heapless_parser.specs.declared.event.TheConstants.{ESCAPE, FAILED, NONE, TEXT}
use Rattle.heapless_parser.specs.declared.parser.EscParser.{EscParser}
use Rattle.heapless_parser.specs.Emitted.{is_run, queued_of, sent_events}
use Rattle.heapless_parser.specs.Runs.{Gives, IsBodyChange, IsDueAs, Notes, Passes, PassesIn, Steps}
use Rattle.heapless_parser.specs.States.{BodyIn, HeaderIn, KeptIn, TextIn}

-- ---- a byte

-- A byte of a sequence, of a character or of data was taken, or it was not.
pub record TakesByte (parser : Changed EscParser) (event : Changed EscEvent) (byte : ℕ)
    (is_taken : Bool) : Type 0 where
  -- a byte that is not taken changes nothing
  pub other : is_taken ≡ false
      → (parser.exit.now ≡ parser.entry.now) × (event.exit.now ≡ event.entry.now)
  -- the queued event stays, and so does a failure
  pub queued : IsDueAs parser.exit.now parser.entry.now
  -- after a byte that is taken the parser keeps the unfinished segment, and the event says what is
  -- emitted
  pub notes : is_taken ≡ true → (out : List ℕ) (limit : ℕ)
      → Notes parser.entry.now parser.exit.now event.exit.now out limit (byte ∷ [])

-- A byte of a header, or one that breaks it off, was taken, or it was not.
pub record TakesHeaderByte (parser : Changed EscParser) (memory out : Changed (List ℕ))
    (event : Changed EscEvent) (byte : ℕ) (is_taken : Bool) : Type 0 where
  -- a byte that is not taken changes nothing
  pub other : is_taken ≡ false
      → (parser.exit.now ≡ parser.entry.now) × (event.exit.now ≡ event.entry.now)
      × (memory.exit.now ≡ memory.entry.now)
  -- the queued event stays, and so does a failure
  pub queued : IsDueAs parser.exit.now parser.entry.now
  -- after a byte that is taken parser and memory keep the unfinished segment, and the event says
  -- what is emitted
  pub steps : is_taken ≡ true
      → Steps parser.entry.now parser.exit.now event.exit.now out.exit.now memory.entry.now
      memory.exit.now (byte ∷ [])

-- A byte ended the string, or the header, whose text the memory keeps, or it was not taken.
pub record TakesEnd (parser : Changed EscParser) (memory : List ℕ) (out : Changed (List ℕ))
    (event : Changed EscEvent) (byte : ℕ) (is_taken : Bool) : Type 0 where
  -- a byte that is not taken changes nothing
  pub other : is_taken ≡ false
      → (parser.exit.now ≡ parser.entry.now) × (event.exit.now ≡ event.entry.now)
      × (out.exit.now ≡ out.entry.now)
  -- the queued event stays, and so does a failure
  pub queued : IsDueAs parser.exit.now parser.entry.now
  -- after a byte that is taken the parser keeps the unfinished segment, and the event says what is
  -- emitted
  pub steps : is_taken ≡ true
      → Steps parser.entry.now parser.exit.now event.exit.now out.exit.now memory memory
      (byte ∷ [])

-- A control broke off a string or data, and then acted as between sequences, or it was not taken.
pub record Leaves (parser : Changed EscParser) (memory : List ℕ) (out : Changed (List ℕ))
    (event : Changed EscEvent) (byte : ℕ) (is_taken : Bool) : Type 0 where
  -- a control that is not taken changes neither the parser nor the event
  pub other : is_taken ≡ false
      → (parser.exit.now ≡ parser.entry.now) × (event.exit.now ≡ event.entry.now)
  -- the parser has failed if it had
  pub failed : parser.exit.now.has_failed ≡ parser.entry.now.has_failed
  -- after a control that is taken the parser keeps the unfinished segment, and the event, with the
  -- queued one, says what is emitted
  pub gives : is_taken ≡ true
      → Gives parser.entry.now parser.exit.now event.exit.now out.exit.now memory memory (byte ∷ [])

-- A byte that broke a segment off was taken, so a second event may be queued.
pub record GivesByte (parser : Changed EscParser) (event : EscEvent) (byte : ℕ) : Type 0 where
  -- the parser has failed if it had
  pub failed : parser.exit.now.has_failed ≡ parser.entry.now.has_failed
  -- the parser keeps the unfinished segment then, and the event, with the queued one, says what is
  -- emitted
  pub gives : (out memory : List ℕ)
      → Gives parser.entry.now parser.exit.now event out memory memory (byte ∷ [])

-- The parser keeps the unfinished segment after this move. That is no text of a string yet, so it
-- holds for any memory.
abbrev pub KeepsAfter : EscParser → Move → Type 0
KeepsAfter p move = (memory : List ℕ) → KeptIn p memory move.0

-- The parser made this move, and the event says what is emitted.
pub record Makes (parser : Changed EscParser) (event : EscEvent) (move : Move) : Type 0 where
  pub kept : KeepsAfter parser.exit.now move
  pub says : (out : List ℕ) → sent_events event out ≡ move.1
  -- the queued event stays, and so does a failure
  pub queued : IsDueAs parser.exit.now parser.entry.now

-- ---- the text of a string

-- Bytes of a string that emit no event were taken, or they were not.
pub record TakesText (parser : Changed EscParser) (memory : Changed (List ℕ)) (x : List ℕ)
    (is_taken : Bool) : Type 0 where
  -- bytes that are not taken change nothing
  pub other : is_taken ≡ false
      → (parser.exit.now ≡ parser.entry.now) × (memory.exit.now ≡ memory.entry.now)
  -- the queued event stays, and so does a failure
  pub queued : IsDueAs parser.exit.now parser.entry.now
  -- after bytes that are taken parser and memory keep the unfinished segment
  pub passes : is_taken ≡ true
      → PassesIn parser.entry.now parser.exit.now memory.entry.now memory.exit.now x

-- A text was appended to the kept one, or it was not.
pub record Appends (parser : Changed EscParser) (memory : Changed (List ℕ)) (text : List ℕ)
    (is_taken : Bool) : Type 0 where
  -- a text that is not taken changes nothing
  pub other : is_taken ≡ false
      → (parser.exit.now ≡ parser.entry.now) × (memory.exit.now ≡ memory.entry.now)
  -- the parser is as before but for the kept text
  pub same : parser.exit.now ≡ record parser.entry.now {
    text = parser.exit.now.text;
    is_over = parser.exit.now.is_over;
  }
  -- the parser keeps the old text and this one, or that the string is past the limit
  pub kept : is_taken ≡ true → (t : List ℕ) → TextIn parser.entry.now memory.entry.now t
      → TextIn parser.exit.now memory.exit.now (t ++ text)

-- The parser is in the state that it was in, and the queued event stays.
abbrev pub StaysIn : EscParser → EscParser → Type 0
StaysIn new old = (new.state ≡ old.state) × IsDueAs new old

-- The parser is as before but for the parameters of a control sequence, and whether its last number
-- goes on.
abbrev pub KeepsForm : EscParser → EscParser → Type 0
KeepsForm new old = (new.form ≡ old.form) × IsBodyChange new old

-- A byte was added to the body of a control sequence.
pub record AddsToBody (parser : Changed EscParser) (byte : ℕ) : Type 0 where
  -- the kept body has the byte at its end
  pub body : (x : List ℕ) → BodyIn parser.entry.now x → BodyIn parser.exit.now (x ++ byte ∷ [])
  -- the parser is as before but for the body
  pub same : IsBodyChange parser.exit.now parser.entry.now

-- A parameter byte was added to the header of a device control string, or it was not.
pub record AddsToHeader (parser : Changed EscParser) (memory : Changed (List ℕ)) (byte : ℕ)
    (is_taken : Bool) : Type 0 where
  -- a byte that is not taken changes nothing
  pub other : is_taken ≡ false
      → (parser.exit.now ≡ parser.entry.now) × (memory.exit.now ≡ memory.entry.now)
  -- the parser is in the state that it was in
  pub same : StaysIn parser.exit.now parser.entry.now
  -- the kept parameter bytes, and the header, have the byte at their end
  pub text : is_taken ≡ true → (x : List ℕ)
      → TextIn parser.entry.now memory.entry.now (parameters_of x)
      → TextIn parser.exit.now memory.exit.now (parameters_of (x ++ byte ∷ []))
  pub header : is_taken ≡ true → (x : List ℕ) → HeaderIn parser.entry.now x
      → HeaderIn parser.exit.now (x ++ byte ∷ [])

-- ---- the bytes that come first

-- Ignored bytes were taken, from the first on, or none.
pub record Skips (parser : Changed EscParser) (bytes : List ℕ) (taken : ℕ) : Type 0 where
  -- no more bytes are taken than there are
  pub few : taken ≤ length bytes
  -- if none are taken, nothing changed
  pub none : taken ≡ 0 → parser.exit.now ≡ parser.entry.now
  -- the queued event stays, and so does a failure
  pub queued : IsDueAs parser.exit.now parser.entry.now
  -- the parser keeps the unfinished segment after these bytes, and they emit nothing
  pub passes : 0 < taken → Passes parser.entry.now parser.exit.now (take taken bytes)

-- Bytes were taken, from the first on, or none. `notes` is the statement about parser and event for
-- the bytes that were taken.
pub record TakesWhole (parser : Changed EscParser) (event : Changed EscEvent) (bytes : List ℕ)
    (taken : ℕ) (notes : List ℕ → Type 0) : Type 0 where
  -- no more bytes are taken than there are
  pub few : taken ≤ length bytes
  -- if none are taken, nothing changed
  pub none : taken ≡ 0
      → (parser.exit.now ≡ parser.entry.now) × (event.exit.now ≡ event.entry.now)
  -- the queued event stays, and so does a failure
  pub queued : IsDueAs parser.exit.now parser.entry.now
  pub noted : 0 < taken → notes (take taken bytes)

-- Bytes that continue a sequence, a string or a character, or begin one, were taken, from the first
-- on, or none.
pub record TakesPart (parser : Changed EscParser) (memory out : Changed (List ℕ))
    (event : Changed EscEvent) (bytes : List ℕ) (taken : ℕ) : Type 0 where
  -- no more bytes are taken than there are
  pub few : taken ≤ length bytes
  -- if none are taken, nothing changed
  pub none : taken ≡ 0
      → (parser.exit.now ≡ parser.entry.now) × (event.exit.now ≡ event.entry.now)
      × (memory.exit.now ≡ memory.entry.now)
  -- the queued event stays, and so does a failure
  pub queued : IsDueAs parser.exit.now parser.entry.now
  -- parser and memory keep the unfinished segment after these bytes, and the event says what is
  -- emitted
  pub steps : 0 < taken
      → Steps parser.entry.now parser.exit.now event.exit.now out.exit.now memory.entry.now
      memory.exit.now (take taken bytes)

-- The same holds, and a byte that breaks a segment off may be taken too, so a second event may be
-- queued.
pub record GivesPart (parser : Changed EscParser) (memory out : Changed (List ℕ))
    (event : Changed EscEvent) (bytes : List ℕ) (taken : ℕ) : Type 0 where
  -- no more bytes are taken than there are
  pub few : taken ≤ length bytes
  -- if none are taken, nothing changed
  pub none : taken ≡ 0
      → (parser.exit.now ≡ parser.entry.now) × (event.exit.now ≡ event.entry.now)
      × (memory.exit.now ≡ memory.entry.now)
  -- nothing is queued after no event
  pub queued : event.exit.now.kind ≡ NONE
      → queued_of parser.exit.now.queued_kind parser.exit.now.queued_value ≡ []
  -- the parser has failed if it had
  pub failed : parser.exit.now.has_failed ≡ parser.entry.now.has_failed
  -- parser and memory keep the unfinished segment after these bytes, and the event, with the queued
  -- one, says what is emitted
  pub gives : 0 < taken
      → Gives parser.entry.now parser.exit.now event.exit.now out.exit.now memory.entry.now
      memory.exit.now (take taken bytes)

-- ---- the event

-- The event is as before but for its kind and its byte.
abbrev pub IsSingleChange : EscEvent → EscEvent → Type 0
IsSingleChange new old = new ≡ record old {
  kind = new.kind;
  byte = new.byte;
}

-- There is no event, or one of two kinds that have a byte alone.
pub record NotesSingle (a b : ℕ) (event : Changed EscEvent) : Type 0 where
  pub kind : (event.exit.now.kind ≡ NONE) ⊎ (event.exit.now.kind ≡ a) ⊎ (event.exit.now.kind ≡ b)
  pub same : IsSingleChange event.exit.now event.entry.now

-- The event may have become a control sequence, or one that has a byte alone.
pub record NotesCsi (event : Changed EscEvent) : Type 0 where
  -- it has a place for each parameter
  pub count : event.exit.now.count ≤ 256
  -- it is as before but for the fields of these
  pub same : event.exit.now ≡ record event.entry.now {
    kind = event.exit.now.kind;
    count = event.exit.now.count;
    csi_params = event.exit.now.csi_params;
    has_more = event.exit.now.has_more;
    byte = event.exit.now.byte;
  }

-- as many parameters and intermediates are counted as before
abbrev pub IsCountedAs : EscEvent → EscEvent → Type 0
IsCountedAs new old = (new.count ≡ old.count) × (new.kept ≡ old.kept)

-- If bytes were taken, the event is a text of this kind, within this room.
pub record NotesText (kind room : ℕ) (event : Changed EscEvent) (is_taken : Type 0)
    : Type 0 where
  pub some : is_taken → (event.exit.now.kind ≡ kind) × (event.exit.now.length ≤ room)
  pub within : IsCountedAs event.exit.now event.entry.now

-- Bytes of a string were taken, and there is no event, or one of this kind, that of its text.
pub record TakesPartOf (text : ℕ) (parser : Changed EscParser) (memory out : Changed (List ℕ))
    (event : Changed EscEvent) (bytes : List ℕ) (taken : ℕ) : Type 0 where
  pub takes : TakesPart parser memory out event bytes taken
  pub kind : (event.exit.now.kind ≡ NONE) ⊎ (event.exit.now.kind ≡ text)
  pub within : IsCountedAs event.exit.now event.entry.now
      × (event.exit.now.length ≤ length out.entry.now)

-- the event has a place for each counted parameter and intermediate, and its text is within this
-- room
abbrev pub IsInRoom : EscEvent → ℕ → Type 0
IsInRoom e room = (e.count ≤ 256) × (e.kept ≤ 2) × (e.length ≤ room)

-- If bytes were taken, the event is an escape sequence without intermediates.
pub record NotesFinal (event : Changed EscEvent) (is_taken : Type 0) : Type 0 where
  pub some : is_taken → (event.exit.now.kind ≡ ESCAPE) × (event.exit.now.kept ≡ 0)
  -- it has the parameters and the text that it had
  pub within : (event.exit.now.count ≡ event.entry.now.count)
      × (event.exit.now.length ≡ event.entry.now.length)

-- If bytes were taken, the event is a sequence or a command, and no run; it is within this room.
pub record NotesSequence (event : EscEvent) (room : ℕ) (is_taken : Type 0) : Type 0 where
  pub some : is_taken → (event.kind ≢ NONE) × (event.kind ≢ TEXT) × (event.kind < FAILED)
      × (is_run event.kind ≡ false)
  pub within : IsInRoom event room
