-- The text of the command of a kind and fields.
use Rattle.std.specs.Prelude.{ℕ, ◌≡◌, List}
use Rattle.std.specs.Global.{Global}
use Rattle.esc_values.specs.Clear.{IsClearText}
use Rattle.esc_osc.specs.Commands.{command_text, inner_text}
use Rattle.esc_osc.specs.Writable.{IsWritable}
use Rattle.esc_osc.specs.declared.command.OperatingSystemCommand.{OperatingSystemCommand}
use Rattle.flat_values.specs.Fields.{Table}
use Rattle.flat_values.specs.Held.{Has, IsHeld}
use Rattle.esc_calls.specs.OscValues.{command_of}
use Rattle.esc_calls.specs.Written.{RefusedFor}

-- the number of a kind and the fields are those of the command, whose text between `ESC ]` and `ESC
-- \` is clear, and means a command that has them too
pub record IsWrittenAs (k : ℕ) (t : Table) (c : OperatingSystemCommand Global) : Type 0 where
  pub has : Has k t c
  pub clear : IsClearText (inner_text c)
  pub back : Has k t (command_of (inner_text c))

-- the whole text of such a command
abbrev pub IsText : ℕ → Table → List ℕ → Type 0
IsText k t s = (c : OperatingSystemCommand Global) × IsWrittenAs k t c × (s ≡ command_text c)

-- why none was written
abbrev pub IsRefusal : ℕ → Table → ℕ → Type 0
IsRefusal k t = RefusedFor (Has {A = Global} k t) IsHeld IsWritable
