use Rattle.std.proofs.Common.{◌++◌, [], Some, ap, sym, ◌∙◌}
use Rattle.esc_parse.proofs.Lists.StepsOverLists.{on_ok_more}
use Rattle.esc_filter.proofs.Results.{pushed}
use Rattle.caret_notation.proofs.Streams.TextOfFedBytes.{at_once, end_grows, more_grows, shown_as, stays_as}
use Rattle.caret_notation.proofs.Spans.GroundIsTested.{ground_test}
use Rattle.caret_notation.specs.Fed.{added_by}
use Rattle.caret_notation.proofs.reveal.Reveal.put_first.Goals as goal

pub returns-then-not-is_ground-clause-given : goal.returns-then-not-is_ground-clause-given
returns-then-not-is_ground-clause-given g c = λ f part e.
    let old = c.args.self.now in
    let x = c.args.bytes.now in
    let new = record old { kept = c.extend.new.self; text = c.extend.new.text } in
    let test = ground_test c.is_ground.result x
    (c.is_ground.ensures.ground (Some old.rule.limit) x f.framed) in
    on_ok_more _ _ c.extend.result (λ k.
    more_grows g.P.Admit old.rule [] x new (added_by old) (added_by new) part
    (sym test ∙ c.if-not-is_ground.true) k.1
    (record { unfailed = f.unfailed; framed = f.framed; kept = k.0 }))
    (c.extend.ensures.given [] f.kept)

pub returns-then-stays-clause-given : goal.returns-then-stays-clause-given
returns-then-stays-clause-given g c = λ f part e.
    let old = c.args.self.now in
    let rule = old.rule in
    let V = g.P.Admit in
    let x = c.args.bytes.now in
    let test = ground_test c.is_ground.result x
    (c.is_ground.ensures.ground (Some rule.limit) x f.framed) in
    let extend = c.extend-then-stays in
    pushed extend.result (added_by old) x extend.new.vec.items extend.ensures.items (λ i.
    let new = record old { framer = c.restart.new.self; text = extend.new.vec } in
    end_grows V rule [] x new (added_by old) (added_by new) part
    (sym test ∙ c.if-not-is_ground.false)
    (at_once V rule x (added_by old) (added_by new)
    (i ∙ ap (λ y. added_by old ++ y)
    (sym (stays_as V rule x c.args.passes e c.in_ok-stays.stays c.in_ok-stays.ensures.given
    c.if-stays.true))))
    (record {
      unfailed = f.unfailed;
      framed = c.restart.ensures.fed (Some rule.limit) x f.framed;
      kept = f.kept;
    }))

pub returns-else-stays-clause-given : goal.returns-else-stays-clause-given
returns-else-stays-clause-given g c = λ f part e.
    let old = c.args.self.now in
    let rule = old.rule in
    let V = g.P.Admit in
    let x = c.args.bytes.now in
    let test = ground_test c.is_ground.result x
    (c.is_ground.ensures.ground (Some rule.limit) x f.framed) in
    on_ok_more _ _ c.push_shown.result (λ i.
    let new = record old { framer = c.restart.new.self; text = c.push_shown.new.text } in
    end_grows V rule [] x new (added_by old) (added_by new) part
    (sym test ∙ c.if-not-is_ground.false)
    (at_once V rule x (added_by old) (added_by new)
    (i ∙ ap (λ y. added_by old ++ y)
    (sym (shown_as V rule x c.args.passes e c.in_ok-stays.stays c.in_ok-stays.ensures.given
    c.if-stays.false))))
    (record {
      unfailed = f.unfailed;
      framed = c.restart.ensures.fed (Some rule.limit) x f.framed;
      kept = f.kept;
    })) c.push_shown.ensures.ok
