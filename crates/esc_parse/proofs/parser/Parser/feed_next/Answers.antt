use Rattle.std.proofs.Common.{sym, subst, take, rules}
use Rattle.std.proofs.lemmas.Result.{IfErr-at_err, IfOk-at_ok}
use Rattle.esc_parse.proofs.Lists.StepsOverLists.{on_err_at}
use Rattle.esc_parse.proofs.Values.EventsGiveValues.{may_feed, performs_fed, performs_some}
use Rattle.esc_parse.proofs.Values.ExactPrefixes.{quiet_silent}
use Rattle.std.proofs.Math.Logic.{⊎_map}
use Rattle.std.proofs.Common.{inl, inr}
use Rattle.esc_parse.proofs.parser.Parser.feed_next.Goals as goal
use Rattle.esc_frame.specs.Stream.{events_within}
use Rattle.esc_parse.specs.Fed.{Hooks, ParserHasConsumedWithin}
use Rattle.esc_parse.specs.Given.{AnyAt, At}
use Rattle.esc_actions.specs.Meaning.{mode_from}
use Rattle.esc_actions.specs.Values.{plain, value_of}

pub returns-in-Ok : goal.returns-in-Ok
unfolding ParserHasConsumedWithin
returns-in-Ok g c =
    let some = c.parse_some-result in
    let bs = c.args.bytes.now in record {
      count = search rules;
      empty = search rules;
      given = λ limit s h.
          let w = IfOk-at_ok _ c.in-Ok.is (some.ensures.parsed limit s h.0).given in
          let r = performs_fed (At value_of g.S.Sink.takes) (At value_of g.S.Sink.refuses) limit s
          (take c.in-Ok.taken bs) _ some.new.actor w.0.1
          (subst (λ u. Hooks limit u (mode_from plain (events_within limit s)))
          (sym c.take.ensures.taken) h.1) in ((w.0.0, r.0), r.1);
      quiet = λ limit s h. quiet_silent g.row.A.Denot limit s bs c.in-Ok.taken
          (IfOk-at_ok _ c.in-Ok.is (some.ensures.parsed limit s h.0).given).1;
      refused = λ limit s h. tt;
      failed = search rules;
    }

pub returns-in-Err : goal.returns-in-Err
unfolding ParserHasConsumedWithin
returns-in-Err g c =
    let some = c.parse_some-result in record {
      count = tt;
      empty = search rules;
      given = λ limit s h. tt;
      quiet = λ limit s h. tt;
      refused = λ limit s h.
          let w = IfErr-at_err _ c.in-Err.is (some.ensures.parsed limit s h.0).refused in (
            w.0,
            (on_err_at _ c.in-Err.is some.ensures.after.ends, c.take.ensures.nothing),
            performs_some (At value_of g.S.Sink.takes) (At value_of g.S.Sink.refuses) limit s
                c.args.bytes.now _ some.new.actor w.1
                (subst (λ u. Hooks limit u (mode_from plain (events_within limit s)))
                (sym c.take.ensures.taken) h.1),
          );
      failed = search rules;
    }

pub parse_some-result-requires : goal.parse_some-result-requires
unfolding ParserHasConsumedWithin
parse_some-result-requires g c =
    ⊎_map (λ r. r) (λ w. elim w [
      | inl broken ↦ inl broken.0
      | inr fed ↦ inr (
        fed.0,
        fed.1,
        fed.2.0,
        may_feed (At value_of g.S.Sink.takes) (At value_of g.S.Sink.refuses)
            (AnyAt value_of g.S.Sink.may) fed.0 fed.1
            c.args.bytes.now _
            (subst (λ u. Hooks fed.0 u (mode_from plain (events_within fed.0 fed.1)))
            (sym c.take.ensures.taken) fed.2.1) fed.3,
      )
    ]) c.requires
