use Rattle.std.proofs.Common.{rules, arith, ◌≡◌, true, take}
use Rattle.std.proofs.lemmas.Grind.{common_steps}
use Rattle.caret_notation.proofs.Streams.TextOfFedBytes.{at_text, text_grows}
use Rattle.caret_notation.specs.Fed.{added_by}
use Rattle.caret_notation.proofs.reveal.Reveal.take_some.Goals as goal

pub returns-then-run-eq0 : goal.returns-then-run-eq0
returns-then-run-eq0 g c =
    let old = c.args.self.now in
    let empty : c.is_empty.result ≡ true = search rules in
    let first = c.take_first.ensures in record {
      count = search rules;
      given = λ r h. first.given r ((c.is_empty.ensures old.rule.limit r h.kept).0 empty, h);
      rule = search rules;
      refused = λ r h. first.refused r ((c.is_empty.ensures old.rule.limit r h.kept).0 empty, h);
    }

pub returns : goal.returns
returns g c = record {
  count = search rules;
  given = λ r h.
      let old = c.args.self.now in
      let n = c.text_run-run.result in
      let new = record old { text = c.extend.new.vec } in
      let empty : c.is_empty.result ≡ true = search rules in
      let e = (c.is_empty.ensures old.rule.limit r h.kept).0 empty in
      text_grows g.P.Admit old.rule r (take n c.args.bytes.now) (added_by old)
      c.extend.new.vec.items new e c.text_run-run.ensures.text.0
      c.text_run-run.ensures.text.1
      (c.text_run-run.ensures.limit (search rules)) (at_text r old c.extend.new.vec h)
      c.in_ok-extend.ensures.items;
  rule = search rules;
  refused = search rules;
}

pub returns-in_err-extend : goal.returns-in_err-extend
returns-in_err-extend g c = record {
  count = grind (arith, common_steps);
  given = λ r h. grind (arith, common_steps);
  rule = grind (arith, common_steps);
  refused = λ r h. grind (arith, common_steps, c.in_err-extend.ensures.refused);
}
