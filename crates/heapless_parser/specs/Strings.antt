-- A string that a parser was in before a step, by its numbers after it.
use Rattle.std.specs.Prelude.{ℕ, ◌≡◌, ◌≢◌, ◌≤◌, ◌⊎◌, ◌-◌, true, false, List, length, slice_index}
use Rattle.esc_frame.specs.Machine.Taking.{OpensOsc}
use Rattle.heapless_parser.specs.declared.event.EscEvent.{EscEvent}
use Rattle.heapless_parser.specs.declared.event.TheConstants.{NONE, CONTROL, LIMIT}
use Rattle.heapless_parser.specs.declared.limited.Place.{Place}
use Rattle.heapless_parser.specs.declared.numbers.TheConstants.{GROUND, OSC_STATE, HEADER_STATE, APC_STATE, MALFORMED}
use Rattle.heapless_parser.specs.declared.parser.EscParser.{EscParser}

abbrev pub last_byte : List ℕ → ℕ
last_byte x = slice_index x (length x - 1)

-- The parser is in a string of this state no more; or in one that has just begun, as these bytes
-- end in the control that opens it.
abbrev pub HasLeft : ℕ → ℕ → EscParser → List ℕ → Type 0
HasLeft state introducer p x =
    (p.state ≢ state)
    ⊎ ((p.text ≡ 0) × (p.is_over ≡ false) × (p.pending ≡ 0) × (last_byte x ≡ introducer))

-- the byte is the final byte of a header of a device control string that is past the limit, and has
-- its form
abbrev pub EndsHeader : Place → List ℕ → Type 0
EndsHeader before x =
    (before.state ≡ HEADER_STATE) × (before.is_over ≡ true) × (before.form ≢ MALFORMED)
    × (length x ≡ 1) × (0x40 ≤ slice_index x 0) × (slice_index x 0 ≤ 0x7e)

-- From this place these bytes ended a string, or the header of one that is past the limit.
abbrev pub EndsString : Place → EscParser → List ℕ → Type 0
EndsString before p x =
    ((before.state ≡ OSC_STATE) × HasLeft OSC_STATE 0x9d p x)
    ⊎ ((before.state ≡ GROUND) × (before.pending ≡ 0) × OpensOsc x × HasLeft OSC_STATE 0x9d p x)
    ⊎ ((before.state ≡ APC_STATE) × HasLeft APC_STATE 0x9f p x)
    ⊎ EndsHeader before x

-- nothing was noted, or a control alone
abbrev pub IsQuiet : EscEvent → EscParser → Type 0
IsQuiet e p = ((e.kind ≡ NONE) ⊎ (e.kind ≡ CONTROL)) × (p.queued_kind ≡ NONE)

-- From the one parser and event to the other nothing changed; or these bytes ended a string past
-- the limit, and that was noted in the place of no event, or of a control, which is queued.
abbrev pub NotesLimit : Place → EscParser → EscParser → EscEvent → EscEvent → List ℕ → Type 0
NotesLimit before p q e f x =
    ((q ≡ p) × (f ≡ e))
    ⊎ (IsQuiet e p × EndsString before p x × (f ≡ record e { kind = LIMIT })
    × (((e.kind ≡ NONE) × (q ≡ p))
    ⊎ ((e.kind ≡ CONTROL) × (q ≡ record p { queued_kind = CONTROL; queued_value = e.byte }))))
