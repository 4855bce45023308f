-- Escape sequences and their rows.
use Rattle.std.proofs.Common.{◌≡◌, ℕ, ◌<◌, true, false, map, Some, refl}
use denote.Enum.Bare.{tag_one}
use denote.Enum.Declared.{variants}
use denote.Enum.Enum.{tag_below}
use Rattle.control_functions.specs.declared.escape_function.EscapeFunction.{EscapeFunction}
use Rattle.control_functions.specs.declared.escape_table.TheConstants.{ROWS, STARTS}
use Rattle.control_functions.specs.contracts.escape_function.EscapeFunction.{the_type}
use Rattle.control_functions.specs.EscapeEffects.{changes_screen, is_answered}
use Rattle.control_functions.specs.Escapes.{place, key_of, function_of, rows_of}
use Rattle.control_functions.specs.Rows.{Rise}
use Rattle.control_functions.proofs.Tables as tables
use Rattle.control_functions.proofs.Tables.{AllRise, Answers, rises, some_row}

pub below : (f : EscapeFunction) → place f < 85
unfolding place
below f = tag_below (variants the_type) (the_type.to f)

-- the rows are in the order of the variants
pub sheet : tables.Functions ROWS place key_of changes_screen
unfolding place key_of changes_screen
sheet = tables.sheet_of below (tag_one the_type tt) refl refl refl some_row

pub answers : Answers ROWS is_answered
unfolding is_answered
answers = record { each = refl }

-- each row is found by its key
each_found : map (λ r. function_of r.key) ROWS ≡ map (λ r. Some r.function) ROWS
unfolding function_of rows_of
each_found = refl

pub found_by_key : (f : EscapeFunction) → function_of (key_of f) ≡ Some f
found_by_key = tables.of_each_key sheet function_of (λ f. Some f) each_found

pub has_its_key : (k : ℕ) (f : EscapeFunction) → function_of k ≡ Some f → key_of f ≡ k
unfolding function_of rows_of
has_its_key = tables.keyed_in_group sheet STARTS 0x20

pub not_both : (f : EscapeFunction) → is_answered f ≡ true → changes_screen f ≡ false
not_both = tables.not_both sheet answers

-- the places of the groups rise, up to the number of rows
all_rise : AllRise STARTS 85
unfolding AllRise rises
all_rise = refl

pub rise : Rise STARTS 85
rise = tables.rise STARTS 85 all_rise
