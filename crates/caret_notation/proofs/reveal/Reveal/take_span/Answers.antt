use Rattle.std.proofs.Common.{◌++◌, Some, sym, ◌∙◌}
use Rattle.esc_parse.proofs.Lists.StepsOverLists.{on_ok_more}
use Rattle.caret_notation.proofs.Spans.SpansGrow.{grows_then}
use Rattle.caret_notation.proofs.Streams.TextOfFedBytes.{end_grows, more_grows}
use Rattle.caret_notation.proofs.Spans.GroundIsTested.{ground_test}
use Rattle.caret_notation.specs.Fed.{added_by, closed_text}
use Rattle.caret_notation.specs.Visible.{rest_text}
use Rattle.caret_notation.proofs.reveal.Reveal.take_span.Goals as goal

pub returns-then-has_ended-clause-given : goal.returns-then-has_ended-clause-given
returns-then-has_ended-clause-given g c = λ r f part.
    let old = c.args.self.now in
    let rule = old.rule in
    let q = r ++ c.args.bytes.now in
    let mid = record old { kept = c.extend.new.self; text = c.extend.new.text } in
    let new = c.close.new.self in
    let k = c.in_ok-extend.ensures.given r f.kept in
    let test = ground_test c.is_ground-has_ended.result q
    (c.is_ground-has_ended.ensures.ground (Some rule.limit) q f.framed) in
    on_ok_more _ _ c.close.result (λ e.
    end_grows g.P.Admit rule r c.args.bytes.now new (added_by old) (added_by new) part
    (sym test ∙ c.if-has_ended.true)
    (grows_then (added_by old) (added_by mid) (added_by new) (rest_text rule.marking rule.limit r)
    (rest_text rule.marking rule.limit q) (closed_text g.P.Admit rule q) k.1 e.1) e.0)
    (c.close.ensures.given q (record { unfailed = f.unfailed; framed = f.framed; kept = k.0 }))

pub returns-then-has_ended-clause-refused : goal.returns-then-has_ended-clause-refused
returns-then-has_ended-clause-refused g c = λ r f.
    let k = c.in_ok-extend.ensures.given r f.kept in
    c.close.ensures.refused (r ++ c.args.bytes.now)
    (record { unfailed = f.unfailed; framed = f.framed; kept = k.0 })

pub returns-else-has_ended-clause-given : goal.returns-else-has_ended-clause-given
returns-else-has_ended-clause-given g c = λ r f part.
    let old = c.args.self.now in
    let rule = old.rule in
    let q = r ++ c.args.bytes.now in
    let new = record old { kept = c.extend.new.self; text = c.extend.new.text } in
    let k = c.in_ok-extend.ensures.given r f.kept in
    let test = ground_test c.is_ground-has_ended.result q
    (c.is_ground-has_ended.ensures.ground (Some rule.limit) q f.framed) in
    more_grows g.P.Admit rule r c.args.bytes.now new (added_by old) (added_by new) part
    (sym test ∙ c.if-has_ended.false) k.1
    (record { unfailed = f.unfailed; framed = f.framed; kept = k.0 })
