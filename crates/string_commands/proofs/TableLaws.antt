-- Laws of the table.
use Rattle.std.proofs.Common.{◌≡◌, ℕ, ◌<◌, List, [], map, get_or, length, Option, Some, None, zero-add, refl, sym, ap, ◌∙◌}
use Rattle.std.specs.List.{range_with_len}
use Rattle.std.proofs.lemmas.List.{get_or-map}
use Rattle.std.proofs.lemmas.List.FromFn.{get_or-range_with_len}
use Rattle.string_commands.specs.Rows.{entry_at, names, only, place_named, place_of, starts}
use Rattle.string_commands.specs.declared.table.TheConstants.{COUNT}

numbers : List ℕ
numbers = range_with_len 0 COUNT

-- a fact about the places of all rows is one about each
each : {X : Type 0} (xs : List X) (f : X → Option ℕ) (d : X) → length xs ≡ COUNT
    → map f xs ≡ map (λ i. Some i) (range_with_len 0 COUNT) → (i : ℕ) → i < COUNT
    → f (get_or xs i d) ≡ Some i
each xs f d long all i lt =
    sym (get_or-map f xs i d None (rw long lt)) ∙ ap (λ t. get_or t i None) all
    ∙ get_or-map (λ j. Some j) (range_with_len 0 COUNT) i 0 None lt
    ∙ ap (λ j. Some j) (get_or-range_with_len 0 COUNT i 0 lt ∙ zero-add i)

all_named : map place_named names ≡ map (λ i. Some i) (range_with_len 0 COUNT)
unfolding place_named names
all_named = refl

as_many : length names ≡ COUNT
unfolding names
as_many = refl

pub found_by_name : (i : ℕ) → i < COUNT → place_named (get_or names i []) ≡ Some i
found_by_name = each names place_named [] as_many all_named

same : (i j : ℕ) → Some i ≡ Some j → i ≡ j
same i j h = cc

pub one_of_a_name : (i j : ℕ) → i < COUNT → j < COUNT → get_or names i [] ≡ get_or names j []
    → i ≡ j
one_of_a_name i j lt lt' h =
    same i j (sym (found_by_name i lt) ∙ ap place_named h ∙ found_by_name j lt')

-- the rows that are found by each row's entry and start
own_place : ℕ → Option ℕ
own_place i =
    place_of (entry_at i).kind (entry_at i).key (only (entry_at i)) (get_or starts i [])

all_found : map own_place (range_with_len 0 COUNT) ≡ map (λ i. Some i) (range_with_len 0 COUNT)
unfolding own_place place_of entry_at starts
all_found = refl

pub found_by_start : (i : ℕ) → i < COUNT
    → place_of (entry_at i).kind (entry_at i).key (only (entry_at i)) (get_or starts i [])
    ≡ Some i
unfolding own_place
found_by_start i lt =
    ap own_place (sym (get_or-range_with_len 0 COUNT i 0 lt ∙ zero-add i))
    ∙ each (range_with_len 0 COUNT) own_place 0 refl all_found i lt
