-- A kind and fields are the whole of a command: it is read from them.
use Rattle.std.proofs.Common.{ℕ, ◌≡◌, sym, ap, ◌∙◌}
use Rattle.esc_osc.specs.declared.command.OperatingSystemCommand.{OperatingSystemCommand}
use Rattle.flat_values.proofs.CommandsBack.{command_back}
use Rattle.flat_values.proofs.Tables.{rows_say}
use Rattle.flat_values.proofs.ValuesBack.{any_bounds, any_fits, any_reading, any_within}
use Rattle.flat_values.specs.Commands.{fields_of}
use Rattle.flat_values.specs.Fields.{table_values, table_of}
use Rattle.flat_values.specs.FoundCommands.{command_in, form_at}
use Rattle.flat_values.specs.Held.{parts_of}
use Rattle.flat_values.specs.Kinds.{kind_number, kind_of}

module _ {A : Type 0} where
  -- commands whose kinds have one number, and whose fields have one table, are the same command
  pub whole : (c d : OperatingSystemCommand A)
      → kind_number (kind_of c) ≡ kind_number (kind_of d)
      → table_of (fields_of c) ≡ table_of (fields_of d) → c ≡ d
  whole c d number table =
      let rows = sym (rows_say (fields_of c)) ∙ ap table_values table ∙ rows_say (fields_of d) in
      sym (command_back any_reading any_bounds any_fits c (any_within (parts_of c)))
      ∙ (λ k. command_in any_reading (form_at (number k)) (rows k))
      ∙ command_back any_reading any_bounds any_fits d (any_within (parts_of d))
