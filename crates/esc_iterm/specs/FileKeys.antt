-- The keys of a file as the program holds them. Only private functions are stated by it.
use Rattle.std.specs.Prelude.{ℕ, List, Option}
use Rattle.std.specs.Fmt.{decimal}
use Rattle.std.specs.Option.{option_map}
use Rattle.esc_values.specs.Base64.{base64_text}
use Rattle.esc_values.specs.Fields.{Entry}
use Rattle.esc_iterm.specs.Files.{written_dimension}
use Rattle.esc_iterm.specs.declared.write_file.Key.{Key}
use Rattle.esc_iterm.specs.declared.write_file.Value.{Value}
use Rattle.esc_iterm.specs.declared.write_file.Value.TheVariants as value

-- the value of a key, where it is written
abbrev pub value_text : Value → Option (List ℕ)
value_text (value.Size n) = option_map decimal n
value_text (value.Name t) = option_map base64_text (option_map (λ t. t.now) t)
value_text (value.Dimension d) = written_dimension d
value_text (value.Word w) = option_map (λ t. t.now) w

abbrev pub entry : Key → Entry
entry k = (k.0.now, value_text k.1)
