-- The events that the lines of a recording tell a reader that writes none of it.
use Rattle.std.specs.Prelude.{ℕ, Bool, true, false, ◌==◌, if◌then◌else◌, List, [], ◌∷◌, Option, None, Some, codes}
use Rattle.std.specs.Str.{bytes_eq}
use Rattle.json.specs.Json.{Json, document}
use Rattle.json.specs.Lex.{tokens}
use Rattle.json.specs.Token.{Token}
use Rattle.json.specs.Token.Token.{begin_array, end_array, number, string}
use Rattle.asciicast.specs.Recordings.{first_byte, is_input, is_output, member_of, number_of}
use Rattle.asciicast.specs.declared.event.Event.{Event}
use Rattle.asciicast.specs.declared.event.Event.TheVariants as seen

-- The event of a line: the text that the terminal got, or that was typed, with the time; the time
-- of an event of another kind; a header, with times counted from the event before, or not; nothing;
-- or it is no line of a recording.
pub data Told : Type 0 where
  printed : List ℕ → List ℕ → Told
  typed : List ℕ → List ℕ → Told
  passed : List ℕ → Told
  begun : Bool → Told
  nothing : Told
  unread : Told

-- an event of this time, kind and text
abbrev pub told_at : List ℕ → List ℕ → List ℕ → Told
told_at t k d = if is_output k then printed t d else if is_input k then typed t d else passed t

-- an array of a time, a kind and a text
abbrev pub told_event : List Token → Told
told_event (begin_array ∷ number t ∷ string k ∷ string d ∷ end_array ∷ []) = told_at t k d
told_event _ = unread

-- the version of the format
abbrev pub told_version : Option (List ℕ) → Told
told_version None = unread
told_version (Some v) =
    if bytes_eq v (codes "2") then begun false
    else if bytes_eq v (codes "3") then begun true
    else unread

abbrev pub told_header : Option Json → Told
told_header j = told_version (number_of (member_of j))

-- a line, by its first byte that is no white space
abbrev pub told_from : Option ℕ → List ℕ → Told
told_from None l = nothing
told_from (Some b) l =
    if b == 0x23 then nothing
    else if b == 0x7b then told_header (document l)
    else if b == 0x5b then told_event (tokens l)
    else unread

abbrev pub line_report : List ℕ → Told
line_report l = told_from (first_byte l) l

-- the event that was seen is this
abbrev pub told_by : Event → Told
told_by (seen.Output t d) = printed t.now d.now
told_by (seen.Input t d) = typed t.now d.now
told_by (seen.Passed t) = passed t.now
told_by (seen.Header b) = begun b
told_by seen.Nothing = nothing
told_by seen.Wrong = unread
