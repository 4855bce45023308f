-- Names that a query can ask for are written as a text that asks for them.
use Rattle.std.proofs.Common.{ℕ, ◌≡◌, List, sym, subst, ap, ◌∙◌}
use Rattle.flat_values.proofs.SixelsFound.{queries_whole}
use Rattle.flat_values.specs.Fields.{Table, table_of}
use Rattle.flat_values.specs.FoundNames.{HasNames}
use Rattle.flat_values.specs.Queries.{query_fields}
use Rattle.xtgettcap.proofs.ReadsBack.{data_is_writable, writes_back}
use Rattle.xtgettcap.specs.Names.{AreWritable, names_of, names_text}
use Rattle.esc_calls.specs.QueryValues.{query_table}
use Rattle.esc_calls.specs.WrittenQueries.{IsWrittenAs}

-- names whose text asks for names that have the same fields
pub query_written : (t : Table) (ns : List (List ℕ)) → HasNames t ns
    → query_table (names_text ns) ≡ t → IsWrittenAs t ns
query_written t ns has is =
    let back = queries_whole (names_of (names_text ns)) ns (is ∙ sym has) in
    let writable = subst AreWritable back (data_is_writable (names_text ns)) in
    record {
      has = has;
      writable = writable;
      clear = (writes_back ns writable).0;
      back = back;
    }

-- if the text of the names that have the fields does not ask for them, no names that a query can
-- ask for have them
pub none_asked : (t : Table) (ns : List (List ℕ)) → HasNames t ns
    → (query_table (names_text ns) ≡ t → ⊥) → (ms : List (List ℕ)) → AreWritable ms
    → HasNames t ms → ⊥
none_asked t ns has differs ms writable of_ms =
    let same = queries_whole ms ns (of_ms ∙ sym has) in
    let back = (writes_back ms writable).1 in
    differs (subst (λ x. query_table (names_text x) ≡ t) same
    (ap (λ x. table_of (query_fields x)) back ∙ of_ms))
