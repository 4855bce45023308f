-- The tokens that a browser cuts a text into: the tokenizer of WHATWG HTML, 13.2.5, for the states
-- that the text of parts reaches. It goes from character to character and looks for characters of
-- ASCII alone, so it reads the bytes of UTF-8 in the same way. If the standard goes to a state that
-- is not here, or replaces NUL, this one is lost: it says no more of the rest, and gives the token
-- `stray` at the end.
use Rattle.std.specs.Prelude.{ℕ, ◌==◌, ◌+◌, nat_le, Bool, true, false, ◌&&◌, ◌||◌, if◌then◌else◌, List, [], ◌∷◌, ◌++◌, codes, Option, Some, None}
use Rattle.std.specs.Str.{bytes_eq}

-- a tag that is partly read
pub record Tag : Type 0 where
  pub is_end : Bool
  pub name : List ℕ
  pub attributes : List (List ℕ × List ℕ)

pub data Token : Type 0 where
  -- a character of the text
  character : ℕ → Token
  -- a start tag: its name, and its attributes with their values, in order
  start_tag : List ℕ → List (List ℕ × List ℕ) → Token
  -- an end tag: its name
  end_tag : List ℕ → Token
  -- text that the states here do not read
  stray : Token

-- the place of a character reference: in text, or in the value of an attribute, of which this is
-- read
pub data Place : Type 0 where
  in_text : Place
  in_value : Tag → List ℕ → List ℕ → Place

pub data State : Type 0 where
  -- 13.2.5.1, data state
  data_state : State
  -- 13.2.5.6, tag open state
  tag_open : State
  -- 13.2.5.7, end tag open state
  end_tag_open : State
  -- 13.2.5.8, tag name state
  tag_name : Tag → State
  -- 13.2.5.32, before attribute name state
  before_name : Tag → State
  -- 13.2.5.33, attribute name state: the name so far
  attribute_name : Tag → List ℕ → State
  -- 13.2.5.35, before attribute value state: the name
  before_value : Tag → List ℕ → State
  -- 13.2.5.36, attribute value (double-quoted) state: the name, and the value so far
  value : Tag → List ℕ → List ℕ → State
  -- 13.2.5.39, after attribute value (quoted) state
  after_value : Tag → State
  -- 13.2.5.72 and 13.2.5.73, character reference state and named character reference state: the
  -- name so far
  reference : Place → List ℕ → State
  -- any other
  lost : State

-- tab, line feed, form feed or space
abbrev pub is_blank : ℕ → Bool
is_blank c = c == 0x09 || c == 0x0a || c == 0x0c || c == 0x20

abbrev pub is_upper : ℕ → Bool
is_upper c = nat_le 0x41 c && nat_le c 0x5a

abbrev pub is_lower : ℕ → Bool
is_lower c = nat_le 0x61 c && nat_le c 0x7a

abbrev pub is_alpha : ℕ → Bool
is_alpha c = is_upper c || is_lower c

abbrev pub is_alphanumeric : ℕ → Bool
is_alphanumeric c = is_alpha c || (nat_le 0x30 c && nat_le c 0x39)

-- ASCII letters in lower case, and any other character as it is
abbrev pub lower_case : ℕ → ℕ
lower_case c = if is_upper c then c + 0x20 else c

-- the character of a name, for the names that are used here (13.5)
abbrev pub named_character : List ℕ → Option ℕ
named_character n = if bytes_eq n (codes "amp") then Some 0x26
    else if bytes_eq n (codes "lt") then Some 0x3c
    else if bytes_eq n (codes "gt") then Some 0x3e
    else if bytes_eq n (codes "quot") then Some 0x22
    else None

abbrev pub with_name : Tag → ℕ → Tag
with_name t c = record t { name = t.name ++ lower_case c ∷ [] }

abbrev pub with_attribute : Tag → List ℕ → List ℕ → Tag
with_attribute t n v = record t { attributes = t.attributes ++ (n, v) ∷ [] }

-- whether a tag has an attribute of this name: the standard leaves out one that comes again
abbrev pub has_attribute : List (List ℕ × List ℕ) → List ℕ → Bool
has_attribute [] n = false
has_attribute (a ∷ more) n = bytes_eq a.0 n || has_attribute more n

-- the state after a character reference
abbrev pub after_reference : Place → Option ℕ → State
after_reference p None = lost
after_reference in_text (Some c) = data_state
after_reference (in_value t n v) (Some c) = value t n (v ++ c ∷ [])

-- the state after a character
abbrev pub next : State → ℕ → State
next data_state c = if c == 0x26 then reference in_text []
    else if c == 0x3c then tag_open
    else data_state
next tag_open c = if c == 0x2f then end_tag_open
    else if is_alpha c then tag_name
    (record { is_end = false; name = lower_case c ∷ []; attributes = [] })
    else lost
next end_tag_open c = if is_alpha c then tag_name
    (record { is_end = true; name = lower_case c ∷ []; attributes = [] })
    else lost
next (tag_name t) c = if is_blank c then before_name t
    else if c == 0x3e then data_state
    else if c == 0x2f || c == 0 then lost
    else tag_name (with_name t c)
next (before_name t) c = if is_blank c then before_name t
    else if c == 0x3e then data_state
    else if c == 0x2f || c == 0x3d || c == 0 then lost
    else attribute_name t (lower_case c ∷ [])
next (attribute_name t n) c = if is_blank c || c == 0x3e || c == 0x2f || c == 0 then lost
    else if c == 0x3d then (if has_attribute t.attributes n then lost else before_value t n)
    else attribute_name t (n ++ lower_case c ∷ [])
next (before_value t n) c = if is_blank c then before_value t n
    else if c == 0x22 then value t n []
    else lost
next (value t n v) c = if c == 0x22 then after_value (with_attribute t n v)
    else if c == 0x26 then reference (in_value t n v) []
    else if c == 0 then lost
    else value t n (v ++ c ∷ [])
next (after_value t) c = if is_blank c then before_name t
    else if c == 0x3e then data_state
    else lost
next (reference p n) c = if c == 0x3b then after_reference p (named_character n)
    else if is_alphanumeric c then reference p (n ++ c ∷ [])
    else lost
next lost c = lost

-- the token of a tag that ends
abbrev pub tag_token : Tag → Token
tag_token t = if t.is_end then end_tag t.name else start_tag t.name t.attributes

-- the tokens that a character reference gives by itself
abbrev pub reference_tokens : Place → Option ℕ → List Token
reference_tokens in_text (Some c) = character c ∷ []
reference_tokens in_text None = []
reference_tokens (in_value t n v) o = []

-- the tokens that a character gives
abbrev pub character_tokens : State → ℕ → List Token
character_tokens data_state c = if c == 0x26 || c == 0x3c then [] else character c ∷ []
character_tokens (tag_name t) c = if c == 0x3e then tag_token t ∷ [] else []
character_tokens (before_name t) c = if c == 0x3e then tag_token t ∷ [] else []
character_tokens (after_value t) c = if c == 0x3e then tag_token t ∷ [] else []
character_tokens (reference p n) c = if c == 0x3b then reference_tokens p (named_character n)
    else []
character_tokens tag_open c = []
character_tokens end_tag_open c = []
character_tokens (attribute_name t n) c = []
character_tokens (before_value t n) c = []
character_tokens (value t n v) c = []
character_tokens lost c = []

-- the tokens of a text that ends in a state
abbrev pub at_end : State → List Token
at_end data_state = []
at_end tag_open = stray ∷ []
at_end end_tag_open = stray ∷ []
at_end (tag_name t) = stray ∷ []
at_end (before_name t) = stray ∷ []
at_end (attribute_name t n) = stray ∷ []
at_end (before_value t n) = stray ∷ []
at_end (value t n v) = stray ∷ []
at_end (after_value t) = stray ∷ []
at_end (reference p n) = stray ∷ []
at_end lost = stray ∷ []

-- the tokens of a text from a state on
abbrev pub tokens_from : State → List ℕ → List Token
tokens_from s [] = at_end s
tokens_from s (c ∷ cs) = character_tokens s c ++ tokens_from (next s c) cs

-- Newlines as the standard normalizes them before it reads tokens (13.2.3.5): a carriage return and
-- a line feed, or a carriage return alone, as a line feed. The truth value says whether a carriage
-- return came before.
abbrev pub normal_line_ends : Bool → List ℕ → List ℕ
normal_line_ends after [] = []
normal_line_ends after (c ∷ cs) = if c == 0x0d then 0x0a ∷ normal_line_ends true cs
    else if after && c == 0x0a then normal_line_ends false cs
    else c ∷ normal_line_ends false cs

-- the tokens of a text
abbrev pub tokens : List ℕ → List Token
tokens s = tokens_from data_state (normal_line_ends false s)
