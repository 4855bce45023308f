-- Sixel data is read from its rows, and the names of a query from its fields.
use Rattle.std.proofs.Common.{ℕ, zero, suc, arith, ◌≡◌, ◌<◌, List, [], ◌∷◌, get_or, length, map, refl, sym, subst, ap, ◌∙◌}
use Rattle.esc_sixel.specs.declared.sixel_data.SixelData.{SixelData}
use Rattle.esc_sixel.specs.declared.sixel_data.SixelData.TheVariants.{Data}
use Rattle.flat_values.proofs.Tables.{rows_say}
use Rattle.flat_values.specs.Fields.{named_values, table_values, table_of, text_of}
use Rattle.flat_values.specs.FoundSixels.{item_in}
use Rattle.flat_values.specs.Queries.{query_fields}
use Rattle.flat_values.specs.Sixels.{sixel_row}
use Rattle.flat_values.specs.declared.sixel_row.SixelRow.{SixelRow}

item_back : (d : SixelData) → item_in (sixel_row d) ≡ d
item_back (Data p) = refl
item_back d = refl

pub sixels_whole : (d e : SixelData) → sixel_row d ≡ sixel_row e → d ≡ e
sixels_whole d e is = sym (item_back d) ∙ ap item_in is ∙ item_back e

-- each of the rows of parts is that of one
one_in : (ds : List SixelData) (i : ℕ) (e : SixelRow) → i < length (map sixel_row ds)
    → (d : SixelData) × (sixel_row d ≡ get_or (map sixel_row ds) i e)
one_in [] i e inside = absurd (omega (arith, inside))
one_in (d ∷ ds) zero e inside = (d, refl)
one_in (d ∷ ds) (suc i) e inside = one_in ds i e (omega (arith, inside))

pub one_of : (ds : List SixelData) (rs : List SixelRow) (i : ℕ) (e : SixelRow)
    → map sixel_row ds ≡ rs → i < length rs → (d : SixelData) × (sixel_row d ≡ get_or rs i e)
one_of ds rs i e has = subst (λ xs. i < length xs
    → (d : SixelData) × (sixel_row d ≡ get_or xs i e)) has (one_in ds i e)

names_back : (ns : List (List ℕ))
    → map (λ s. text_of s.1) (map named_values (query_fields ns)) ≡ ns
names_back [] = refl
names_back (n ∷ ns) = ap (λ more. n ∷ more) (names_back ns)

pub queries_whole : (ns ms : List (List ℕ))
    → table_of (query_fields ns) ≡ table_of (query_fields ms) → ns ≡ ms
queries_whole ns ms table =
    let rows = sym (rows_say (query_fields ns)) ∙ ap table_values table ∙ rows_say (query_fields ms)
    in
    sym (names_back ns) ∙ ap (map (λ s. text_of s.1)) rows ∙ names_back ms
