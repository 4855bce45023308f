use Rattle.std.proofs.Common.{Some}
use Rattle.esc_parse.proofs.Lists.StepsOverLists.{on_ok_more}
use Rattle.caret_notation.proofs.reveal.Reveal.show.Goals as goal

pub returns-clause-given : goal.returns-clause-given
returns-clause-given g c = λ r h.
    on_ok_more _ _ c.show.result (λ k. (
      record {
        unfailed = h.unfailed;
        framed = c.restart.ensures.fed (Some c.args.self.now.rule.limit) r h.framed;
        kept = k.0;
      },
      k.1,
    )) (c.show.ensures.given c.args.self.now.rule.limit r h.kept)
