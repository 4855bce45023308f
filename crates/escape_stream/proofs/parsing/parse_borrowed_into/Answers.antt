use Rattle.std.proofs.Common.{ap, inl, inr, subst, sym, ◌∙◌}
use Rattle.std.proofs.Math.Logic.{⊎_map}
use Rattle.esc_parse.proofs.Lists.StepsOverLists.{if_err_third, on_ok_more, on_ok_second}
use Rattle.esc_actions.specs.Meaning.{yield_within}
use Rattle.escape_stream.proofs.Lent.{gets_lent, may_lend, stops_lent}
use Rattle.escape_stream.proofs.parsing.parse_borrowed_into.Goals as goal

pub parse_into-result-requires : goal.parse_into-result-requires
parse_into-result-requires g c =
    ⊎_map (subst g.S.BorrowingSink.is_ready (sym c.new.ensures.sink)) (λ w. elim w [
      | inl broken ↦ inl broken
      | inr fed ↦ inr (
        fed.0,
        fed.1,
        fed.2,
        may_lend g.S.BorrowingSink.takes g.S.BorrowingSink.may c.args.sink _
            (yield_within fed.0 fed.1 c.args.bytes.now)
            c.new.ensures.sink c.new.ensures.begun fed.3,
      )
    ]) c.requires

pub returns : goal.returns
returns g c =
    let into = c.parse_into-result in
    let sink = c.new.ensures.sink in
    let T = g.S.BorrowingSink in record {
      given = λ limit s h.
          on_ok_second _ _ _ into.result.0
          (gets_lent T.takes _ into.result.1 (yield_within limit s c.args.bytes.now) c.args.sink
          c.into_sink.result sink c.new.ensures.begun c.into_sink.ensures.sink
          c.into_sink.ensures.begun)
          (into.ensures.given limit s h);
      refused = λ limit s h.
          if_err_third _ _ into.result.0 _ _
          (stops_lent T.takes _ into.result.1 (yield_within limit s c.args.bytes.now) c.args.sink
          c.into_sink.result sink c.new.ensures.begun c.into_sink.ensures.sink
          c.into_sink.ensures.begun T.refuses _) (into.ensures.refused limit s h);
      failed = λ broken.
          let f = into.ensures.failed broken in
          (f.0, f.1, c.into_sink.ensures.sink ∙ ap (λ p. p.sink) f.2 ∙ sink);
      ready = λ ready.
          on_ok_more _ _ into.result.0 (subst T.is_ready (sym c.into_sink.ensures.sink))
          (into.ensures.ready (subst T.is_ready (sym sink) ready));
    }
