-- The arguments of a call that takes bytes, or one byte, and may note an event.
use Rattle.std.specs.Prelude.{ℕ, ◌≡◌, ◌≢◌, ◌<◌, true, false, List, length}
use Rattle.esc_frame.specs.Classes.{class_of, ends_escape, is_breaker, opens}
use Rattle.esc_frame.specs.Segments.{is_empty}
use Rattle.esc_frame.specs.Sequences.{is_from, outcome}
use Rattle.esc_frame.specs.declared.classes.Class.TheVariants.{Introducer}
use Rattle.esc_frame.specs.declared.classes.Kind.{Kind}
use Rattle.esc_frame.specs.declared.utf8.sequence.Outcome.TheVariants.{Broken}
use Rattle.heapless_parser.specs.declared.event.EscEvent.{EscEvent}
use Rattle.heapless_parser.specs.declared.event.TheConstants.{NONE}
use Rattle.heapless_parser.specs.declared.numbers.TheConstants.{ESCAPED, GROUND}
use Rattle.heapless_parser.specs.declared.parser.EscParser.{EscParser}
use Rattle.heapless_parser.specs.States.{begun_in}

-- ---- an event

-- Bytes are there, and no event was noted yet.
pub record Asked (event : EscEvent) (bytes : List ℕ) : Type 0 where
  pub some : 0 < length bytes
  pub none : event.kind ≡ NONE

-- No event was noted yet, and the fields that an earlier one left are within these bounds.
pub record IsFresh (event : EscEvent) (bounds : Type 0) : Type 0 where
  pub none : event.kind ≡ NONE
  pub within : bounds

-- The same holds, and bytes are there.
pub record AskedWithin (event : EscEvent) (bytes : List ℕ) (bounds : Type 0) : Type 0 where
  pub some : 0 < length bytes
  pub fresh : IsFresh event bounds

-- ---- in a state

-- The parser is in this state, and bytes are there.
pub record FedIn (number : ℕ) (parser : EscParser) (bytes : List ℕ) : Type 0 where
  pub some : 0 < length bytes
  pub state : parser.state ≡ number

-- The parser is in this state, no event was noted yet, and the fields that an earlier one left are
-- within these bounds.
pub record AskedIn (number : ℕ) (parser : EscParser) (event : EscEvent) (bounds : Type 0)
    : Type 0 where
  pub state : parser.state ≡ number
  pub fresh : IsFresh event bounds

-- The same holds, and bytes are there.
pub record GoesOn (number : ℕ) (parser : EscParser) (event : EscEvent) (bytes : List ℕ)
    (bounds : Type 0) : Type 0 where
  pub some : 0 < length bytes
  pub asked : AskedIn number parser event bounds

-- ---- and of a byte

-- The parser is in this state, and gets the final byte of a sequence or of a header.
pub record EndsIn (number : ℕ) (parser : EscParser) (event : EscEvent) (byte : ℕ)
    (bounds : Type 0) : Type 0 where
  pub asked : AskedIn number parser event bounds
  pub ends : is_from 0x40 0x7e byte ≡ true

-- The byte breaks off the unfinished segment, no event was noted yet, and the fields that an
-- earlier one left are within these bounds.
pub record AskedToLeave (byte : ℕ) (event : EscEvent) (bounds : Type 0) : Type 0 where
  pub breaks : is_breaker (class_of byte) ≡ true
  pub fresh : IsFresh event bounds

-- A character has begun, and this byte breaks it off.
pub record BreaksCharacter (parser : EscParser) (byte : ℕ) : Type 0 where
  pub ground : parser.state ≡ GROUND
  pub broken : outcome (begun_in parser) byte ≡ Broken
  pub some : is_empty (begun_in parser) ≡ false

-- After an ESC alone this byte opens a sequence or a string of this kind.
pub record OpensInEscape (parser : EscParser) (byte : ℕ) (kind : Kind) : Type 0 where
  pub state : parser.state ≡ ESCAPED
  pub first : parser.kept ≡ 0
  pub class : class_of byte ≡ Introducer kind

-- In an escape sequence this byte is the final one.
pub record EndsEscape (parser : EscParser) (byte : ℕ) : Type 0 where
  pub state : parser.state ≡ ESCAPED
  pub class : ends_escape (class_of byte) ≡ true
  -- a letter that opens something ends a sequence with intermediates alone
  pub letter : opens (class_of byte) ≡ true → parser.kept ≢ 0
