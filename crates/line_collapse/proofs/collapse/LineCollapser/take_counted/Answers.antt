use Rattle.std.proofs.Common.{inl, inr}
use Rattle.std.proofs.lemmas.Result.{IfErr-at_err}
use Rattle.esc_parse.proofs.Lists.StepsOverLists.{on_ok_at}
use Rattle.line_collapse.specs.Windows.{screen_of}
use Rattle.line_collapse.proofs.Streams.{written_more}
use Rattle.line_collapse.proofs.Taken.{all_taken, counted_more}
use Rattle.line_collapse.proofs.collapse.LineCollapser.take_counted.Goals as goal

pub returns-in-Ok-clause-given : goal.returns-in-Ok-clause-given
returns-in-Ok-clause-given g c = λ z s h st.
    let t = c.args.text.now in
    let k = on_ok_at _ c.in-Ok.is (c.feed_into-result.ensures.given (screen_of z) s h) in
    let all = all_taken _ _ _ k.1 in
    let m = written_more z s t c.args.lines _ st.lines all.0 in (
      record {
        terminal = k.0.0;
        lines = m.0;
        tally = counted_more z s t c.args.tally _ st.tally all.1;
      },
      m.1,
    )

pub returns-in-Err-clause-refused : goal.returns-in-Err-clause-refused
returns-in-Err-clause-refused g c = λ z s h.
    elim (IfErr-at_err _ c.in-Err.is (c.feed_into-result.ensures.refused (screen_of z) s h)) [
      | inl r ↦ r
      | inr r ↦ r
    ]
