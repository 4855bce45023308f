-- C0 controls and their rows.
use Rattle.std.proofs.Common.{◌≡◌, ℕ, ◌+◌, ◌-◌, ◌<◌, ◌≤◌, Bool, true, false, ◌==◌, ◌&&◌, ◌||◌, nat_le, nat_lt, map, get_or, Option, Some, None, refl, sym, ap, ◌∙◌, arith, inl, inr}
use Rattle.std.specs.List.{range_with_len}
use Rattle.std.proofs.lemmas.List.{get_or-map}
use Rattle.std.proofs.lemmas.List.FromFn.{get_or-map-range_with_len}
use Rattle.std.proofs.lemmas.Bool.{cases_Bool, cases_lt, eqb-true, ltb-true, lt-leb, agree_below, agree_below_at}
use Rattle.std.proofs.Math.Bool.{and-false}
use denote.Enum.Bare.{tag_one}
use denote.Enum.Declared.{variants}
use denote.Enum.Enum.{tag_below}
use Rattle.esc_values.specs.Params.{is_from}
use Rattle.control_functions.specs.declared.row.Row.{Row}
use Rattle.control_functions.specs.declared.c0.C0.{C0}
use Rattle.control_functions.specs.declared.c0.C0.TheVariants as variant
use Rattle.control_functions.specs.declared.c0_table.TheConstants.{ROWS}
use Rattle.control_functions.specs.contracts.c0.C0.{the_type}
use Rattle.control_functions.specs.Controls.{place, key_of, code_of, control_of, changes_screen, is_answered, is_screen}
use Rattle.control_functions.proofs.Tables as tables
use Rattle.control_functions.proofs.Tables.{Answers, some_row}

pub below : (c : C0) → place c < 33
unfolding place
below c = tag_below (variants the_type) (the_type.to c)

-- the rows are in the order of the variants
pub sheet : tables.Functions ROWS place key_of changes_screen
unfolding place key_of changes_screen
sheet = tables.sheet_of below (tag_one the_type tt) refl refl refl some_row

pub answers : Answers ROWS is_answered
unfolding is_answered
answers = record { each = refl }

-- each row is found by its code
each_found : map (λ r. control_of (r.key - 256)) ROWS ≡ map (λ r. Some r.function) ROWS
unfolding control_of
each_found = refl

pub found_by_code : (c : C0) → control_of (code_of c) ≡ Some c
found_by_code = tables.of_each_key sheet (λ k. control_of (k - 256)) (λ c. Some c) each_found

has_its_key : (n : ℕ) (c : C0) → control_of n ≡ Some c → key_of c ≡ 256 + n
unfolding control_of
has_its_key n c h = tables.keyed_in sheet (256 + n) c h

pub has_its_code : (n : ℕ) (c : C0) → control_of n ≡ Some c → code_of c ≡ n
has_its_code n c h = let key = has_its_key n c h in omega arith

pub not_both : (c : C0) → is_answered c ≡ true → changes_screen c ≡ false
not_both = tables.not_both sheet answers

-- how a code is looked up: below 20 (hexadecimal) by its place
first_row : Row C0
first_row = some_row variant.NUL

by_place : map (λ n. control_of n) (range_with_len 0 32)
    ≡ map (λ n. Some (get_or ROWS n first_row).function) (range_with_len 0 32)
unfolding control_of
by_place = refl

placed : (n : ℕ) → n < 32 → control_of n ≡ Some (get_or ROWS n first_row).function
placed n lt =
    sym (get_or-map-range_with_len (λ i. control_of i) 0 32 n n None lt (omega arith))
    ∙ ap (λ t. get_or t n None) by_place
    ∙ get_or-map-range_with_len (λ i. Some (get_or ROWS i first_row).function) 0 32 n n None lt
    (omega arith)

pub in_row : (n : ℕ) (d : Row C0) → n < 32 → Some (get_or ROWS n d).function ≡ control_of n
in_row n d lt =
    let within : n < 33 = omega arith in
    ap (λ f. Some f) (sym (get_or-map (λ r. r.function) ROWS n d variant.NUL within)
    ∙ get_or-map (λ r. r.function) ROWS n first_row variant.NUL within) ∙ sym (placed n lt)

pub deleted : Some variant.DEL ≡ control_of 0x7f
unfolding control_of
deleted = refl

-- there are no other codes
is_key : ℕ → Bool
is_key k = nat_lt k 0x120 || (k == 0x17f)

all_keys : map (λ r. is_key r.key) ROWS ≡ map (λ r. true) ROWS
unfolding is_key
all_keys = refl

no_other : (n : ℕ) (c : C0) → 0x20 ≤ n → (n == 0x7f) ≡ false → key_of c ≡ 256 + n → ⊥
unfolding is_key
no_other n c high other e =
    let is : is_key (key_of c) ≡ true =
    ap is_key (sym (tables.row_key sheet c (some_row c)))
    ∙ tables.row_fact ROWS (λ r. r.function) place sheet.table (λ r. is_key r.key) (λ r. true)
    all_keys c (some_row c) in
    let has : is_key (256 + n) ≡ true = ap is_key (sym e) ∙ is in
    elim (cases_Bool (nat_lt (256 + n) 0x120)) [
      | inl low ↦ let lt = ltb-true (256 + n) 0x120 low in omega arith
      | inr not_low ↦ let same : ((256 + n) == 0x17f) ≡ true = rw not_low at has in
          let eq = eqb-true (256 + n) 0x17f same in
          let is_del : n ≡ 0x7f = omega arith in
          let so : (0x7f == 0x7f) ≡ false = ap (λ k. k == 0x7f) (sym is_del) ∙ other in cc
    ]

none_found : (n : ℕ) (o : Option C0) → 0x20 ≤ n → (n == 0x7f) ≡ false → control_of n ≡ o → None ≡ o
none_found n None high other e = refl
none_found n (Some c) high other e = absurd (no_other n c high other (has_its_key n c e))

pub no_control : (n : ℕ) → 0x20 ≤ n → (n == 0x7f) ≡ false → None ≡ control_of n
no_control n high other = none_found n (control_of n) high other refl

-- the codes of those that change the screen alone
low_codes : agree_below (is_from 0x08 0x0d) (λ i. is_screen (control_of i)) 32 ≡ true
unfolding control_of changes_screen
low_codes = refl

low_code : (n : ℕ) → n < 32 → is_from 0x08 0x0d n ≡ is_screen (control_of n)
low_code n lt = agree_below_at (is_from 0x08 0x0d) (λ i. is_screen (control_of i)) 32 n low_codes lt

delete_is_none : is_screen (control_of 0x7f) ≡ false
unfolding control_of changes_screen
delete_is_none = refl

high_code : (n : ℕ) → 0x20 ≤ n → is_screen (control_of n) ≡ false
high_code n high =
    elim (cases_Bool (n == 0x7f)) [
      | inl same ↦ ap (λ k. is_screen (control_of k)) (eqb-true n 0x7f same) ∙ delete_is_none
      | inr other ↦ ap is_screen (sym (no_control n high other))
    ]

pub by_code : (n : ℕ) → is_from 0x08 0x0d n ≡ is_screen (control_of n)
by_code n =
    elim (cases_lt n 0x20) [
      | inl low ↦ low_code n low
      | inr high ↦ let over : 0x0d < n = omega arith in
          ap (λ b. nat_le 0x08 n && b) (lt-leb n 0x0d over) ∙ and-false (nat_le 0x08 n)
          ∙ sym (high_code n high)
    ]
