-- The kinds of the lines of a recording, and the text that is written for them.
use Rattle.std.specs.Prelude.{ℕ, ◌≡◌, nat_le, nat_lt, Bool, true, false, not, ◌&&◌, ◌||◌, ◌==◌, ◌+◌, ◌/◌, ◌%◌, if◌then◌else◌, List, [], ◌∷◌, ◌++◌, Option, None, Some, chars, codes, encode_utf8_all}
use Rattle.std.specs.List.{flat_map, list_all}
use Rattle.std.specs.Str.{bytes_eq}
use Rattle.json.specs.Find.{as_number, get}
use Rattle.json.specs.Json.{Json, document}
use Rattle.json.specs.Lex.{tokens}
use Rattle.json.specs.Print.{IsNumber, print}
use Rattle.json.specs.Token.{Token}
use Rattle.json.specs.Token.Token.{begin_array, end_array, number, string}
use Rattle.asciicast.specs.declared.line.Line.{Line}
use Rattle.asciicast.specs.declared.line.Line.TheVariants as seen

-- A line of a recording: an event of output with its time and text; one of input, or of another
-- kind, with its time; a header, with times counted from the event before, or not; a comment or no
-- text; or no line of a recording.
pub data Kind : Type 0 where
  output : List ℕ → List ℕ → Kind
  input : List ℕ → Kind
  passed : List ℕ → Kind
  header : Bool → Kind
  other : Kind
  wrong : Kind

abbrev pub is_output : List ℕ → Bool
is_output k = bytes_eq k (codes "o")

abbrev pub is_input : List ℕ → Bool
is_input k = bytes_eq k (codes "i")

-- an event of this time, kind and text
abbrev pub kind_at : List ℕ → List ℕ → List ℕ → Kind
kind_at t k d = if is_output k then output t d else if is_input k then input t else passed t

-- an array of a time, a kind and a text
abbrev pub event_kind : List Token → Kind
event_kind (begin_array ∷ number t ∷ string k ∷ string d ∷ end_array ∷ []) = kind_at t k d
event_kind _ = wrong

-- the version of the format
abbrev pub version_kind : Option (List ℕ) → Kind
version_kind None = wrong
version_kind (Some v) =
    if bytes_eq v (codes "2") then header false
    else if bytes_eq v (codes "3") then header true
    else wrong

abbrev pub number_of : Option Json → Option (List ℕ)
number_of None = None
number_of (Some j) = as_number j

abbrev pub member_of : Option Json → Option Json
member_of None = None
member_of (Some j) = get (codes "version") j

abbrev pub header_kind : Option Json → Kind
header_kind j = version_kind (number_of (member_of j))

-- white space of JSON within a line: a space, a tab, a carriage return
abbrev pub is_space : ℕ → Bool
is_space b = (b == 0x20) || ((b == 0x09) || (b == 0x0d))

-- the first byte that is none
abbrev pub first_byte : List ℕ → Option ℕ
first_byte [] = None
first_byte (b ∷ l) = if is_space b then first_byte l else Some b

-- a line, by that byte
abbrev pub kind_by : Option ℕ → List ℕ → Kind
kind_by None l = other
kind_by (Some b) l =
    if b == 0x23 then other
    else if b == 0x7b then header_kind (document l)
    else if b == 0x5b then event_kind (tokens l)
    else wrong

abbrev pub kind_of : List ℕ → Kind
kind_of l = kind_by (first_byte l) l

-- the line that was seen is this
abbrev pub kind_seen : Line → Kind
kind_seen (seen.Output t d) = output t.now d.now
kind_seen (seen.Input t) = input t.now
kind_seen (seen.Passed t) = passed t.now
kind_seen (seen.Header b) = header b
kind_seen seen.Other = other
kind_seen seen.Wrong = wrong

-- the time of an event is a number of JSON
abbrev pub HasNumber : Line → Type 0
HasNumber (seen.Output t d) = IsNumber t.now
HasNumber (seen.Input t) = IsNumber t.now
HasNumber (seen.Passed t) = IsNumber t.now
HasNumber _ = Unit {0}

-- ---- the text that is written

abbrev pub event_tokens : List ℕ → List ℕ → List ℕ → List Token
event_tokens t k d = begin_array ∷ number t ∷ string k ∷ string d ∷ end_array ∷ []

-- The line is that of an event at this time, of this kind and text, and is read as that:
pub record IsEventOf (t k d line : List ℕ) : Type 0 where
  pub text : line ≡ print (event_tokens t k d) ++ 0x0a ∷ []
  pub reads : tokens (print (event_tokens t k d)) ≡ event_tokens t k d

-- the line is such an event of output
abbrev pub IsEvent : List ℕ → List ℕ → List ℕ → Type 0
IsEvent t d line = IsEventOf t (codes "o") d line

-- a character that is no control
abbrev pub is_shown : ℕ → Bool
is_shown c = nat_le 0x20 c && not (nat_le 0x7f c && nat_le c 0x9f)

abbrev pub is_shown_line : List ℕ → Bool
is_shown_line l = list_all is_shown (chars l)

-- holds of a text of characters, none of which is a control
abbrev pub IsShownText : List ℕ → Type 0
IsShownText x = (cs : List ℕ) × (list_all is_shown cs ≡ true) × (encode_utf8_all cs ≡ x)

-- a digit, of a number below 16
abbrev pub hex_digit : ℕ → ℕ
hex_digit n = if nat_lt n 10 then 0x30 + n else 0x57 + n

-- The characters that are written of one of a line that stays. Between the tokens of JSON a
-- carriage return says nothing, and a tab is a space; any other control is spelled, as `\u007f`,
-- which in a text of JSON is the same.
abbrev pub spelled_char : ℕ → List ℕ
spelled_char c =
    if is_shown c then c ∷ []
    else if c == 0x0d then []
    else if c == 0x09 then 0x20 ∷ []
    else codes "\\u00" ++ (hex_digit (c / 16) ∷ hex_digit (c % 16) ∷ [])

-- a line that stays: as it came, if it has no control
abbrev pub spelled_line : List ℕ → List ℕ
spelled_line l =
    if is_shown_line l then l else encode_utf8_all (flat_map spelled_char (chars l))

-- a line of a recording that is no event of output
abbrev pub IsUnheard : Kind → Type 0
IsUnheard (output t d) = ⊥
IsUnheard (input t) = Unit {0}
IsUnheard (passed t) = Unit {0}
IsUnheard (header b) = Unit {0}
IsUnheard other = Unit {0}
IsUnheard wrong = ⊥

-- x is written for such a line l, of this kind: it stays, but if texts of input are dropped such an
-- event has none
abbrev pub StaysAs : Kind → Bool → List ℕ → List ℕ → Type 0
StaysAs (input t) true l x = IsEventOf t (codes "i") [] x
StaysAs k drops l x = x ≡ spelled_line l ++ 0x0a ∷ []
