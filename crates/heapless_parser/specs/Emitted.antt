-- The events of the stream that an event of a call stands for.
use Rattle.std.specs.Prelude.{ℕ, ℤ, Bool, true, false, ◌≡◌, ◌≤◌, ◌+◌, ◌==◌, ◌||◌, if◌then◌else◌, List, [], ◌∷◌, ◌++◌, map, take, drop, pos}
use Rattle.std.specs.Str.{chars}
use Rattle.esc_values.specs.Clear.{parts_of}
use Rattle.esc_values.specs.declared.csi_param.CsiParam.{CsiParam}
use Rattle.esc_values.specs.declared.csi_param.CsiParam.TheVariants.{Integer, P}
use Rattle.esc_frame.specs.Bodies.{capped_at_i64, value_after}
use Rattle.esc_frame.specs.Events.{Event}
use Rattle.esc_frame.specs.Events.Event.{Print, Execute, EscDispatch, CsiDispatch, OscDispatch, DcsHook, DcsPut, DcsUnhook, ApcDispatch}
use Rattle.heapless_parser.specs.declared.event.EscEntry.{EscEntry}
use Rattle.heapless_parser.specs.declared.event.EscEvent.{EscEvent}

abbrev pub param_of : EscEntry → CsiParam
param_of e = if e.is_byte then P e.byte else Integer e.number

-- the bytes at the event's place in the bytes of the call
abbrev pub placed_bytes : EscEvent → List ℕ → List ℕ
placed_bytes e bytes = take e.length (drop e.start bytes)

-- the event's text, at the beginning of the upper half of the buffer
abbrev pub text_of : EscEvent → List ℕ → List ℕ
text_of e out = take e.length out

abbrev pub intermediates_of : EscEvent → List ℕ
intermediates_of e = take e.kept e.intermediates

-- the numbers that parameter bytes of a device control string write
abbrev pub parameters_of : List ℕ → List ℤ
parameters_of x = map (λ p. pos (capped_at_i64 (value_after 0 p))) (parts_of x)

-- a run, of characters or of data, which lies in the bytes of the call
abbrev pub is_run : ℕ → Bool
is_run kind = (kind == 1) || (kind == 8)

abbrev pub run_of : ℕ → List ℕ → List Event
run_of kind x = if kind == 1 then map Print (chars x) else map DcsPut x

-- the events of an event that is no run, where `out` is the upper half of the buffer
abbrev pub sent_events : EscEvent → List ℕ → List Event
sent_events e out =
    if e.kind == 2 then Print e.byte ∷ []
    else if e.kind == 3 then Execute e.byte ∷ []
    else if e.kind == 4 then EscDispatch (intermediates_of e) e.has_more e.byte ∷ []
    else if e.kind == 5
    then CsiDispatch (map param_of (take e.count e.csi_params)) e.has_more e.byte
    ∷ []
    else if e.kind == 6 then OscDispatch (parts_of (text_of e out)) ∷ []
    else if e.kind == 7 then DcsHook e.byte (parameters_of (text_of e out)) (intermediates_of e)
    e.has_more ∷ []
    else if e.kind == 9 then DcsPut e.byte ∷ []
    else if e.kind == 10 then DcsUnhook ∷ []
    else if e.kind == 11 then ApcDispatch (text_of e out) ∷ []
    else []

abbrev pub emitted_by : EscEvent → List ℕ → List ℕ → List Event
emitted_by e out run = if is_run e.kind then run_of e.kind run else sent_events e out

-- The events of an event, where `out` is the upper half of the buffer and `bytes` those of the
-- call.
abbrev pub emitted_events : EscEvent → List ℕ → List ℕ → List Event
emitted_events e out bytes = emitted_by e out (placed_bytes e bytes)

-- the queued character or control
abbrev pub queued_of : ℕ → ℕ → List Event
queued_of kind value = if kind == 2 then Print value ∷ [] else if kind == 3 then Execute value
    ∷ [] else []

-- the events of an event that is no run, and the queued one
abbrev pub said_events : EscEvent → List ℕ → ℕ → ℕ → List Event
said_events e out kind value = sent_events e out ++ queued_of kind value

-- The counts and places of an event are within bounds: the arrays hold its parameters and
-- intermediates, the room holds its text, and a run lies within the bytes taken.
abbrev pub IsWithin : EscEvent → ℕ → ℕ → Type 0
IsWithin e room taken =
    (e.count ≤ 256) × (e.kept ≤ 2) × (is_run e.kind ≡ false → e.length ≤ room)
    × (is_run e.kind ≡ true → e.start + e.length ≤ taken)
