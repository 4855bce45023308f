use Rattle.std.proofs.Common.{rules, ℕ, ◌≡◌, ◌++◌, List, IfSome, ap, drop, sym, subst, ◌∙◌}
use Rattle.std.proofs.lemmas.Bool.{true≢false}
use Rattle.flat_values.specs.Fields.{Table}
use Rattle.flat_values.specs.FoundNames.{HasNames}
use Rattle.xtgettcap.specs.Names.{AreWritable, names_text, query_text}
use Rattle.esc_calls.proofs.QueriesWritten.{none_asked, query_written}
use Rattle.esc_calls.specs.QueryValues.{query_table}
use Rattle.esc_values.specs.Clear.{string_terminator}
use Rattle.esc_calls.proofs.write_tcap.written.Goals as goal

pub returns-clause-text : goal.returns-clause-text
returns-clause-text c =
    let t : Table = (c.args.fields.now, c.args.text.now) in
    let names = c.in-Some.names in
    let has : HasNames t names =
    subst (λ o. IfSome o (HasNames t)) c.in-Some.is c.in_ok-names.ensures.has in
    let text_is : c.in_ok-written.written ≡ query_text names =
    c.in_ok-written.ensures.text ∙ ap query_text c.as_slice.ensures in
    let inner_is : c.names_in.result.now ≡ names_text names =
    c.names_in.ensures ∙ ap (drop 4) (c.as_bytes.ensures ∙ text_is) in
    let back = subst (λ s. query_table s ≡ t) inner_is
    (c.in_ok-is_back.ensures.back.0 c.if-not-branch.false) in (
      names,
      query_written t names has back,
      c.in_ok-ended.ensures.text ∙ ap (λ x. x ++ string_terminator) text_is,
    )

pub returns-then-not-branch-clause-refused : goal.returns-then-not-branch-clause-refused
returns-then-not-branch-clause-refused c =
    let t : Table = (c.args.fields.now, c.args.text.now) in
    let names = c.in-Some.names in
    let has : HasNames t names =
    subst (λ o. IfSome o (HasNames t)) c.in-Some.is c.in_ok-names.ensures.has in
    let text_is : c.in_ok-written.written ≡ query_text names =
    c.in_ok-written.ensures.text ∙ ap query_text c.as_slice.ensures in
    let inner_is : c.names_in.result.now ≡ names_text names =
    c.names_in.ensures ∙ ap (drop 4) (c.as_bytes.ensures ∙ text_is) in
    let unwritable : (ms : List (List ℕ)) → AreWritable ms → HasNames t ms → ⊥ =
    none_asked t names has (λ back. true≢false (sym (c.in_ok-is_back.ensures.back.1
    (subst (λ s. query_table s ≡ t) (sym inner_is) back)) ∙ c.if-not-branch.true)) in
    search (rules, unwritable)
