use Rattle.std.proofs.Common.{ap, refl}
use Rattle.esc_parse.proofs.Lists.StepsOverLists.{if_err_third, if_ok_second}
use Rattle.esc_parse.proofs.Values.ExactPrefixes.{keeps_first, stops_itself}
use Rattle.esc_parse.proofs.parser.Parser.first_in.Goals as goal

pub returns : goal.returns
returns g c = let fed = c.feed_some-taken.ensures in record {
  count = fed.count;
  empty = λ e. ap (λ f. f.action) (fed.empty e);
  given = λ limit s h. if_ok_second _ _ _ c.feed_some-taken.result.0
      (λ n w. keeps_first _ _ _ w refl) (fed.given limit s h);
  quiet = fed.quiet;
  refused = λ limit s h. if_err_third _ _ c.feed_some-taken.result.0 _ _
      (λ f. stops_itself _ _ _ _ _ _ f) (fed.refused limit s h);
  failed = λ h. let f = fed.failed h in (f.0, f.1, ap (λ f. f.action) f.2);
}
