-- The parts that the calls that read a value and fields have in common.
use Rattle.std.specs.Prelude.{ℕ, ◌≡◌, ◌≢◌, List}
use Rattle.flat_values.specs.Fields.{Table}
use Rattle.flat_values.specs.declared.field_row.FieldRow.{FieldRow}
use Rattle.esc_calls.specs.Output.{LacksMemory, put_into}
use Rattle.esc_calls.specs.declared.TheConstants.{DONE}

-- the room that such a call writes to: a value, rows, and their texts
abbrev pub Room : Type 0 → Type 0
Room V = V × List FieldRow × List ℕ

-- The effect of a call that reads a value for which P holds, with a table of rows and texts:
pub record Reads {V : Type 0} (P : V → Type 0) (t : Table) (status : ℕ) (before after : Room V)
    : Type 0 where
  pub value : status ≡ DONE → P after.0
  -- as many of the rows and as much of the texts as there is room for
  pub written : status ≡ DONE → (after.1 ≡ put_into t.0 before.1)
      × (after.2 ≡ put_into t.1 before.2)
  -- or nothing
  pub refused : status ≢ DONE → LacksMemory status × (after.0 ≡ before.0)
      × (after.1 ≡ before.1) × (after.2 ≡ before.2)
