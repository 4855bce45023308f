-- The names of a termcap query are read back from their rows.
use Rattle.std.proofs.Common.{ℕ, ◌≡◌, ◌↔◌, Bool, true, false, IsTrue, List, [], ◌∷◌, Option, None, Result, Ok, Err, IfOk, map, refl, sym, subst, ap, ◌∙◌}
use Rattle.std.proofs.lemmas.Bool.{true≢false}
use Rattle.std.proofs.lemmas.Option.{none-some}
use Rattle.flat_values.proofs.Tables.{rows_say}
use Rattle.flat_values.proofs.ValuesBack.{held_fits}
use Rattle.flat_values.specs.Fields.{Table, named_values, table_values}
use Rattle.flat_values.specs.Found.{held_form as held_reading, value_if_kept}
use Rattle.flat_values.specs.FoundNames.{HasNames, names_in}
use Rattle.flat_values.specs.Held.{AreTexts, types}
use Rattle.flat_values.specs.Queries.{query_fields}

names_back : (ns : List (List ℕ)) → AreTexts types ns
    → names_in held_reading (map named_values (query_fields ns)) ≡ ns
names_back [] h = refl
names_back (n ∷ ns) h =
    let first = held_fits.text n h.0 in
    let rest = names_back ns h.1 in
    λ i. first i ∷ rest i

-- rows say the names that have them
found : (t : Table) (ns : List (List ℕ)) → AreTexts types ns → HasNames t ns
    → names_in held_reading (table_values t) ≡ ns
found t ns texts has =
    ap (names_in held_reading) (ap table_values (sym has) ∙ rows_say (query_fields ns))
    ∙ names_back ns texts

-- where none are kept, none have them
none_kept : {E : Type 0} (t : Table) (ns : List (List ℕ)) (has : Result Bool E)
    → ns ≡ names_in held_reading (table_values t) → IfOk has (λ b. IsTrue b ↔ HasNames t ns)
    → IfOk (value_if_kept ns has) (λ o. o ≡ None → (ms : List (List ℕ)) → AreTexts types ms
    → HasNames t ms → ⊥)
none_kept t ns (Err e) is told = tt
none_kept t ns (Ok true) is told = λ none ms texts it. none-some ns (sym none)
none_kept t ns (Ok false) is told = λ none ms texts it.
    let same : ns ≡ ms = is ∙ found t ms texts it in
    true≢false (sym (told.1 (subst (λ x. HasNames t x) (sym same) it)))

pub no_names : {E : Type 0} (t : Table) (ns : List (List ℕ)) (has : Result Bool E)
    (result : Result (Option (List (List ℕ))) E) → ns ≡ names_in held_reading (table_values t)
    → IfOk has (λ b. IsTrue b ↔ HasNames t ns) → result ≡ value_if_kept ns has
    → IfOk result (λ o. o ≡ None → (ms : List (List ℕ)) → AreTexts types ms → HasNames t ms
    → ⊥)
no_names t ns has result is told result_is =
    subst (λ r. IfOk r (λ o. o ≡ None → (ms : List (List ℕ)) → AreTexts types ms
    → HasNames t ms → ⊥)) (sym result_is) (none_kept t ns has is told)
