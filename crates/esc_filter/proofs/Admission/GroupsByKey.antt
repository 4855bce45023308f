-- The groups of control functions are those of the keys of their rows.
use Rattle.std.proofs.Common.{◌≡◌, ℕ, refl, ap, ◌∙◌}
use Rattle.control_functions.specs.Escapes.{key_of as escape_key_of}
use Rattle.control_functions.specs.Functions.{key_of}
use Rattle.control_functions.specs.declared.control_function.ControlFunction.{ControlFunction}
use Rattle.control_functions.specs.declared.escape_function.EscapeFunction.{EscapeFunction}
use Rattle.control_functions.proofs.Escapes.{sheet as escape_sheet}
use Rattle.control_functions.proofs.Functions.{sheet}
use Rattle.control_functions.proofs.Tables.{of_each_key}
use Rattle.esc_filter.specs.Groups.{of_escape_function, of_escape_key, of_function, of_key}

grouped : (f : ControlFunction) → of_key (key_of f) ≡ of_function f
unfolding of_function
grouped = of_each_key sheet of_key of_function refl

pub row_group : (f : ControlFunction) (k : ℕ) → k ≡ key_of f → of_key k ≡ of_function f
row_group f k e = ap of_key e ∙ grouped f

escape_grouped : (f : EscapeFunction) → of_escape_key (escape_key_of f) ≡ of_escape_function f
unfolding of_escape_function
escape_grouped = of_each_key escape_sheet of_escape_key of_escape_function refl

pub escape_row_group : (f : EscapeFunction) (k : ℕ) → k ≡ escape_key_of f
    → of_escape_key k ≡ of_escape_function f
escape_row_group f k e = ap of_escape_key e ∙ escape_grouped f
