-- Values that rows say, as a reading takes them.
use Rattle.std.specs.Prelude.{ℕ, ℤ, pos, negsuc, ◌==◌, ◌^◌, nat_lt, Bool, true, false, if◌then◌else◌, List, [], ◌∷◌, Option, Some, None, Result, Ok, Err}
use Rattle.std.specs.Option.{unwrap_or}
use Rattle.esc_links.specs.Hyperlinks.{put_all}
use Rattle.esc_values.specs.Scalars.{utf8_of}
use Rattle.flat_values.specs.Fields.{Value, name_number, text_of}
use Rattle.flat_values.specs.Fields.Value.{Number, Text, Size}
use Rattle.flat_values.specs.declared.field_name.FieldName.{FieldName}

-- is what a row says: the number of a name, and a value
abbrev pub NamedValue : Type 0
NamedValue = ℕ × Value

-- the number of a value, if it is a number or a size; else 0
abbrev pub number_of : Value → ℤ
number_of (Number z) = z
number_of (Text t) = pos 0
number_of (Size k) = pos 0

abbrev pub size_of : Value → ℕ
size_of (Number z) = 0
size_of (Text t) = 0
size_of (Size k) = k

-- a number that is not negative
abbrev pub magnitude : ℤ → ℕ
magnitude (pos n) = n
magnitude (negsuc n) = 0

abbrev pub count_of : Value → ℕ
count_of v = magnitude (number_of v)

-- How parts are read: a number below a limit, one of 32 bits that may be negative, a text, and the
-- parameters of a link.
pub record Reading : Type 0 where
  pub number : ℕ → ℕ → ℕ
  pub signed : ℤ → ℤ
  pub text : List ℕ → List ℕ
  pub parameters : List (List ℕ × List ℕ) → List (List ℕ × List ℕ)

-- As the types of a command's parts hold them: a number that is too large for its type is read as
-- 0, a text that is not UTF-8 as the empty text, and parameters one after another.
abbrev pub below : ℕ → ℕ → ℕ
below limit n = if nat_lt n limit then n else 0

abbrev pub signed_below : ℤ → ℤ
signed_below (pos n) = pos (below (2 ^ 31) n)
signed_below (negsuc n) = if nat_lt n (2 ^ 31) then negsuc n else pos 0

abbrev pub utf8_or_none : List ℕ → List ℕ
utf8_or_none t = unwrap_or (utf8_of t) []

abbrev pub held_form : Reading
held_form = record {
  number = below;
  signed = signed_below;
  text = utf8_or_none;
  parameters = put_all [];
}

-- a number, a flag and a text by a reading
abbrev pub byte_of : Reading → Value → ℕ
byte_of r v = r.number (2 ^ 8) (count_of v)

abbrev pub channel_of : Reading → Value → ℕ
channel_of r v = r.number (2 ^ 16) (count_of v)

abbrev pub length_of : Reading → Value → ℕ
length_of r v = r.number (2 ^ 32) (count_of v)

abbrev pub flag_of : Value → Bool
flag_of v = if count_of v == 0 then false else true

abbrev pub string_of : Reading → Value → List ℕ
string_of r v = r.text (text_of v)

-- the value of the first; then the rows after it, and the value of the second
abbrev pub first : List NamedValue → Value
first [] = Size 0
first (s ∷ ss) = s.1

abbrev pub after : List NamedValue → List NamedValue
after [] = []
after (s ∷ ss) = ss

abbrev pub second : List NamedValue → Value
second ss = first (after ss)

-- whether it has this name
abbrev pub is_named : FieldName → NamedValue → Bool
is_named n s = s.0 == name_number n

-- the value of the first, if it has this name; then the rows after it
abbrev pub named_value : FieldName → List NamedValue → Option Value
named_value n [] = None
named_value n (s ∷ ss) = if is_named n s then Some s.1 else None

abbrev pub past : FieldName → List NamedValue → List NamedValue
past n [] = []
past n (s ∷ ss) = if is_named n s then ss else s ∷ ss

-- keys with their values
abbrev pub parameters : Reading → List NamedValue → List (List ℕ × List ℕ)
parameters r [] = []
parameters r (k ∷ []) = []
parameters r (k ∷ v ∷ ss) = (string_of r k.1, string_of r v.1) ∷ parameters r ss

-- a value, where it is kept
abbrev pub value_if_kept : {T E : Type 0} → T → Result Bool E → Result (Option T) E
value_if_kept v (Ok true) = Ok (Some v)
value_if_kept v (Ok false) = Ok None
value_if_kept v (Err e) = Err e
