use Rattle.std.proofs.Common.{IsSomeAnd, Some, inl, sym, subst, ◌∙◌}
use Rattle.std.proofs.lemmas.Result.{IfErr-at_err}
use Rattle.esc_parse.proofs.Lists.StepsOverLists.{on_ok_at}
use Rattle.esc_terminal.specs.Fed.{IsShown, Shows}
use Rattle.esc_terminal.proofs.Stepping.{all_kept, rows_from, rows_given}
use Rattle.esc_terminal.proofs.Streams.{shown_cleared, shows_cleared, shows_more, stands_more, stops_refused}
use Rattle.esc_terminal.proofs.terminal.Terminal.feed_into.Goals as goal

pub returns-in-Ok-clause-given : goal.returns-in-Ok-clause-given
returns-in-Ok-clause-given g c = λ z s h.
    let k = on_ok_at _ c.in-Ok.is (c.parse_into-result.ensures.given (Some 0x1000) s h.parser) in
    let at = subst (λ x. IsSomeAnd x (Shows z s))
    (sym c.take.ensures.value ∙ c.in-Some.is) h.state in
    let old = shows_cleared z s _ c.cleared.result c.cleared.ensures.screen
    c.cleared.ensures.known c.cleared.ensures.names at in
    let all = all_kept g.R.Rows.takes _ _ _ k.1 in
    let m = shows_more z s c.args.bytes.now c.cleared.result _ c.cleared.ensures.requests old
    all.0 in (
      (
        record {
          parser = k.0;
          state = m.0;
        },
        m.1,
      ),
      rows_given g.R.Rows.takes z s c.args.bytes.now c.cleared.result _ _ old all.1,
    )

pub returns-in-Err-clause-refused : goal.returns-in-Err-clause-refused
returns-in-Err-clause-refused g c = λ z s h.
    let f = IfErr-at_err _ c.in-Err.is
    (c.parse_into-result.ensures.refused (Some 0x1000) s h.parser) in
    stops_refused _ _ _ _ (λ o. inl o.1) (λ p v q r. r.2) _ _ _ f.2

pub returns-in-Ok-clause-goes_on : goal.returns-in-Ok-clause-goes_on
returns-in-Ok-clause-goes_on g c = record {
  ok = λ z x s h.
      let k = on_ok_at _ c.in-Ok.is
      (c.parse_into-result.ensures.given (Some 0x1000) s h.parser) in
      let at = subst (λ o. IsSomeAnd o (IsShown z x))
      (sym c.take.ensures.value ∙ c.in-Some.is) h.state in
      let old = shown_cleared z x _ c.cleared.result c.cleared.ensures.screen
      c.cleared.ensures.known c.cleared.ensures.names at in
      let all = all_kept g.R.Rows.takes _ _ _ k.1 in
      let m = stands_more z x s c.args.bytes.now c.cleared.result _ c.cleared.ensures.requests
      old all.0 in (
        (
          record {
            parser = k.0;
            state = m.0;
          },
          m.1,
        ),
        rows_from g.R.Rows.takes z x s c.args.bytes.now c.cleared.result _ _ old all.1,
      );
  refused = λ z x s h. tt;
}

pub returns-in-Err-clause-goes_on : goal.returns-in-Err-clause-goes_on
returns-in-Err-clause-goes_on g c = record {
  ok = λ z x s h. tt;
  refused = λ z x s h.
      let f = IfErr-at_err _ c.in-Err.is
      (c.parse_into-result.ensures.refused (Some 0x1000) s h.parser) in
      stops_refused _ _ _ _ (λ o. inl o.1) (λ p v q r. r.2) _ _ _ f.2;
}
