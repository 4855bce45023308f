use Rattle.std.proofs.Common.{◌<◌, ◌++◌, arith, inl, inr, subst, sym, take, rules}
use Rattle.std.proofs.Math.Logic.{⊎_map}
use Rattle.std.proofs.lemmas.Result.{IfErr-at_err}
use Rattle.esc_frame.specs.Events.{Awaits}
use Rattle.esc_frame.specs.Memory.{MayTake}
use Rattle.esc_frame.specs.Scans.{is_data_byte}
use Rattle.esc_actions.specs.Values.{value_of}
use Rattle.esc_actions.specs.Meaning.{yield_within}
use Rattle.esc_parse.proofs.Data.DataWithoutMode.{data_is_silent, prefix_all, takes_whole}
use Rattle.esc_parse.proofs.Lists.StepsOverLists.{StopsAt-here, on_ok_at}
use Rattle.esc_parse.specs.Fed.{ParserHasConsumedWithin}
use Rattle.esc_parse.specs.Given.{AnyAt, At, StopsAt}
use Rattle.fallible_alloc.specs.Refusals.{Refused}
use Rattle.esc_parse.proofs.parser.Parser.feed_some.Goals as goal

-- the data yields nothing, so the sink awaits nothing
pub parse_into-result-requires : goal.parse_into-result-requires
unfolding ParserHasConsumedWithin
parse_into-result-requires g c =
    let some : 0 < c.data_ahead-n.result = omega (arith, c.if-n-eq0.false) in
    ⊎_map (λ r. r) (λ w. elim w [
      | inl broken ↦ inl broken
      | inr fed ↦ inr (
        fed.0,
        fed.1,
        fed.2,
        subst (λ vs. Awaits (AnyAt value_of g.S.Sink.may) (At value_of g.S.Sink.takes) c.args.sink
            vs) (sym (data_is_silent g.row.A.Denot fed.0 fed.1 _
            (c.data_ahead-n.ensures.kept some fed.0 _ fed.2.1) c.data_ahead-n.ensures.run).0) tt,
      )
    ]) c.requires

pub returns-in-Ok : goal.returns-in-Ok
unfolding ParserHasConsumedWithin
returns-in-Ok g c =
    let n = c.data_ahead-n.result in
    let bs = c.args.bytes.now in
    let result = c.parse_into-result in
    let some : 0 < n = omega (arith, c.if-n-eq0.false) in record {
      count = search rules;
      empty = λ e. absurd (omega (arith, e, some, c.data_ahead-n.ensures.few));
      given = λ limit s h. on_ok_at result.result.0 c.in-Ok.is (result.ensures.given limit s h);
      quiet = λ limit s h k first few.
          data_is_silent g.row.A.Denot limit s (take k bs)
          (c.data_ahead-n.ensures.kept some limit _ h.1)
          (prefix_all is_data_byte bs n k (omega (arith, few)) c.data_ahead-n.ensures.run);
      refused = λ limit s h. tt;
      failed = search rules;
    }

pub returns-in-Err : goal.returns-in-Err
unfolding ParserHasConsumedWithin
returns-in-Err g c =
    let n = c.data_ahead-n.result in
    let bs = c.args.bytes.now in
    let result = c.parse_into-result in
    let some : 0 < n = omega (arith, c.if-n-eq0.false) in record {
      count = tt;
      empty = λ e. absurd (omega (arith, e, some, c.data_ahead-n.ensures.few));
      given = λ limit s h. tt;
      quiet = λ limit s h. tt;
      refused = λ limit s h.
          let f = IfErr-at_err _ c.in-Err.is (result.ensures.refused limit s h) in
          let silent = data_is_silent g.row.A.Denot limit s (take n bs)
          (c.data_ahead-n.ensures.kept some limit _ h.1) c.data_ahead-n.ensures.run in
          let own = subst (λ vs. StopsAt (MayTake (s ++ take n bs) × Refused g.row.A.Denot)
          (At value_of g.S.Sink.takes) (At value_of g.S.Sink.refuses) c.args.sink vs
          result.result.1) silent.0 f.2 in (
            f.0,
            f.1,
            StopsAt-here (At value_of g.S.Sink.takes) (At value_of g.S.Sink.refuses)
                (MayTake (s ++ bs) × Refused g.row.A.Denot) c.args.sink
                (yield_within limit s bs) result.result.1
                (takes_whole s bs n own.0.0, own.0.1) own.1,
          );
      failed = search rules;
    }
