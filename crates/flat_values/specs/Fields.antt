-- Fields, and the rows that hold them for a caller without enums.
use Rattle.std.specs.Prelude.{ℕ, ℤ, pos, ◌==◌, Bool, true, false, if◌then◌else◌, List, [], ◌∷◌, ◌++◌, length, take, drop, map}
use Rattle.flat_values.specs.contracts.field_name.FieldName.{the_type}
use Rattle.flat_values.specs.declared.field_name.FieldName.{FieldName}
use Rattle.flat_values.specs.declared.field_row.FieldRow.{FieldRow}
use Rattle.flat_values.specs.declared.field_row.TheConstants.{NUMBER, SIZE, TEXT}
use denote.Enum.Declared.{tag_of}

-- the value of a field: a number, a text as its bytes, or a size in bytes
pub data Value : Type 0 where
  Number : ℤ → Value
  Text : List ℕ → Value
  Size : ℕ → Value

-- a part of a command, by name
pub record Field : Type 0 where
  pub name : FieldName
  pub value : Value

-- a number from 0 up, any number, a flag, which is 0 or 1, and a text, each by name
abbrev pub signed_field : FieldName → ℤ → Field
signed_field n z = record { name = n; value = Number z }

abbrev pub number_field : FieldName → ℕ → Field
number_field n k = signed_field n (pos k)

abbrev pub flag_number : Bool → ℤ
flag_number false = pos 0
flag_number true = pos 1

abbrev pub flag_field : FieldName → Bool → Field
flag_field n b = signed_field n (flag_number b)

abbrev pub text_field : FieldName → List ℕ → Field
text_field n t = record { name = n; value = Text t }

abbrev pub size_field : FieldName → ℕ → Field
size_field n k = record { name = n; value = Size k }

-- the names are numbered in the order of their enum, from 0
abbrev pub name_number : FieldName → ℕ
name_number n = tag_of the_type n

-- rows, and the texts of their fields one after another
abbrev pub Table : Type 0
Table = List FieldRow × List ℕ

-- the row of a field, where the texts before it have so many bytes
abbrev pub row_at : ℕ → FieldName → Value → FieldRow
row_at start n (Number z) = record {
  name = name_number n;
  kind = NUMBER;
  number = z;
  offset = 0;
  length = 0;
}
row_at start n (Text t) = record {
  name = name_number n;
  kind = TEXT;
  number = pos 0;
  offset = start;
  length = length t;
}
row_at start n (Size k) = record {
  name = name_number n;
  kind = SIZE;
  number = pos 0;
  offset = 0;
  length = k;
}

-- the text of a value, where it is one
abbrev pub text_of : Value → List ℕ
text_of (Number z) = []
text_of (Text t) = t
text_of (Size k) = []

-- a table with a field more, and with these fields more, one after another
abbrev pub with_field : Table → Field → Table
with_field t f = (t.0 ++ row_at (length t.1) f.name f.value ∷ [], t.1 ++ text_of f.value)

abbrev pub with_fields : Table → List Field → Table
with_fields t [] = t
with_fields t (f ∷ fs) = with_fields (with_field t f) fs

-- the table of these fields
abbrev pub table_of : List Field → Table
table_of fs = with_fields ([], []) fs

-- a value of this kind, of its number, its text and its size
abbrev pub value_with : ℕ → ℤ → List ℕ → ℕ → Value
value_with k z t n = if k == NUMBER then Number z else if k == TEXT then Text t else Size n

-- the value of a row's field, over the texts of all fields: by its kind a number, a text or a
-- size
abbrev pub value_at : List ℕ → FieldRow → Value
value_at t r = value_with r.kind r.number (take r.length (drop r.offset t)) r.length

-- the number of a row's name, and its value
abbrev pub row_said : List ℕ → FieldRow → ℕ × Value
row_said t r = (r.name, value_at t r)

-- those of the rows of a table
abbrev pub table_values : Table → List (ℕ × Value)
table_values t = map (row_said t.1) t.0

-- those of fields
abbrev pub named_values : Field → ℕ × Value
named_values f = (name_number f.name, f.value)
