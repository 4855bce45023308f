use Rattle.std.proofs.Common.{ap}
use Rattle.esc_parse.proofs.Lists.ListTakesActions.{gathers, gathers_some}
use Rattle.esc_parse.proofs.Lists.StepsOverLists.{if_err_third, if_ok_second, stops_wanting}
use Rattle.esc_parse.proofs.parser.Parser.more_in.Goals as goal

pub returns : goal.returns
returns g c = let fed = c.feed_some-taken.ensures in record {
  count = fed.count;
  empty = λ e. ap (λ k. k.actions.items) (fed.empty e);
  given = λ limit s h. if_ok_second _ _ _ c.feed_some-taken.result.0
      (λ n w. gathers _ _ _ w) (fed.given limit s h);
  quiet = fed.quiet;
  refused = λ limit s h. if_err_third _ _ c.feed_some-taken.result.0 _ _
      (λ f. let w = stops_wanting _ _ _ _ (λ p v q w. w.2.1) _ _ _ f in
      ((w.0, gathers_some _ _ _ _ f), w.1)) (fed.refused limit s h);
  failed = λ h. let f = fed.failed h in (f.0, f.1, ap (λ k. k.actions.items) f.2);
}
