-- The output for the command that the text of an OSC means.
use Rattle.std.specs.Prelude.{ℕ, ◌≡◌, List, length}
use Rattle.std.specs.Global.{Global}
use Rattle.esc_values.specs.Clear.{parts_of}
use Rattle.esc_osc.specs.Reading.{meaning}
use Rattle.esc_osc.specs.declared.command.OperatingSystemCommand.{OperatingSystemCommand}
use Rattle.flat_values.specs.Commands.{fields_of}
use Rattle.flat_values.specs.Fields.{Table, table_of}
use Rattle.flat_values.specs.Kinds.{kind_number, kind_of}
use Rattle.esc_calls.specs.declared.osc_value.OscValue.{OscValue}

-- the command that the parts of a text mean
abbrev pub command_of : List ℕ → OperatingSystemCommand Global
command_of t = meaning {A = Global} (parts_of t)

-- the rows of its fields, and the texts of these one after another
abbrev pub table_in : List ℕ → Table
table_in t = table_of (fields_of (command_of t))

-- the value is that of a command: its kind, the number of its fields, and the number of bytes of
-- their texts
pub record IsValueOf (c : OperatingSystemCommand Global) (v : OscValue) : Type 0 where
  pub kind : v.kind ≡ kind_number (kind_of c)
  pub count : v.field_count ≡ length (table_of (fields_of c)).0
  pub length : v.text_length ≡ length (table_of (fields_of c)).1

-- it is that of the command that the text means
abbrev pub IsValue : List ℕ → OscValue → Type 0
IsValue t = IsValueOf (command_of t)
