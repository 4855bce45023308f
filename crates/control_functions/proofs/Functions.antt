-- Control functions and their rows.
use Rattle.std.proofs.Common.{◌≡◌, ◌≢◌, ◌^◌, ℕ, ◌+◌, ◌*◌, ◌<◌, ◌≤◌, true, false, nat_lt, map, get_or, Option, Some, None, refl, sym, ap, ◌∙◌, arith}
use Rattle.std.proofs.lemmas.Bool.{ltb-true, ne_eqb}
use denote.Enum.Bare.{tag_one}
use denote.Enum.Declared.{variants}
use denote.Enum.Enum.{tag_below}
use Rattle.control_functions.specs.declared.control_function.ControlFunction.{ControlFunction}
use Rattle.control_functions.specs.declared.control_table.TheConstants.{ROWS, STARTS}
use Rattle.control_functions.specs.contracts.control_function.ControlFunction.{the_type}
use Rattle.control_functions.specs.Effects.{changes_screen, is_answered}
use Rattle.control_functions.specs.Functions.{place, key_of, function_of, rows_of, key_with}
use Rattle.control_functions.specs.Rows.{Rise}
use Rattle.control_functions.proofs.Tables as tables
use Rattle.control_functions.proofs.Tables.{AllRise, Answers, rises, some_row}

pub below : (f : ControlFunction) → place f < 223
unfolding place
below f = tag_below (variants the_type) (the_type.to f)

-- the rows are in the order of the variants
pub sheet : tables.Functions ROWS place key_of changes_screen
unfolding place key_of changes_screen
sheet = tables.sheet_of below (tag_one the_type tt) refl refl refl some_row

pub answers : Answers ROWS is_answered
unfolding is_answered
answers = record { each = refl }

-- each row is found by its key
each_found : map (λ r. function_of r.key) ROWS ≡ map (λ r. Some r.function) ROWS
unfolding function_of rows_of
each_found = refl

pub found_by_key : (f : ControlFunction) → function_of (key_of f) ≡ Some f
found_by_key = tables.of_each_key sheet function_of (λ f. Some f) each_found

pub has_its_key : (k : ℕ) (f : ControlFunction) → function_of k ≡ Some f → key_of f ≡ k
unfolding function_of rows_of
has_its_key = tables.keyed_in_group sheet STARTS 0x40

pub not_both : (f : ControlFunction) → is_answered f ≡ true → changes_screen f ≡ false
not_both = tables.not_both sheet answers

-- the places of the groups rise, up to the number of rows
all_rise : AllRise STARTS 223
unfolding AllRise rises
all_rise = refl

pub rise : Rise STARTS 223
rise = tables.rise STARTS 223 all_rise

-- no key has more than three bytes
short_keys : map (λ r. nat_lt r.key 0x1_0000_0000) ROWS ≡ map (λ r. true) ROWS
short_keys = refl

key_below : (f : ControlFunction) → key_of f < 0x1_0000_0000
key_below f =
    let short : nat_lt (get_or ROWS (place f) (some_row f)).key 0x1_0000_0000 ≡ true =
    tables.row_fact ROWS (λ r. r.function) place sheet.table (λ r. nat_lt r.key 0x1_0000_0000)
    (λ r. true) short_keys f (some_row f) in
    let is = ltb-true _ _ short in
    let same = tables.row_key sheet f (some_row f) in
    omega arith

pub no_function : (k : ℕ) → 0x1_0000_0000 ≤ k → (o : Option ControlFunction) → function_of k ≡ o
    → o ≡ None
no_function k long None e = refl
no_function k long (Some f) e =
    absurd (let same = has_its_key k f e in let less = key_below f in omega arith)

-- a sequence of more than two marks has no function
pub no_function_with : (m n last : ℕ) → 2 ^ 24 ≤ m → None ≡ function_of (key_with m n last)
no_function_with m n last many =
    let other : m ≢ 1 = λ e. absurd (omega arith) in
    let key : key_with m n last ≡ 256 * m + last = rw (ne_eqb m 1 other) refl in
    let long : 0x1_0000_0000 ≤ 256 * m + last = omega arith in
    sym (ap function_of key ∙ no_function (256 * m + last) long (function_of (256 * m + last)) refl)
