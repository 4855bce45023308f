use Rattle.std.proofs.Common.{Some, arith, rules}
use Rattle.std.proofs.lemmas.Grind.{common_steps}
use Rattle.caret_notation.proofs.Filters.VerdictOfJudge.{on_any}
use Rattle.caret_notation.proofs.Spans.MoreOfSpan.{part_of}
use Rattle.caret_notation.proofs.reveal.Reveal.take_more.Goals as goal

pub returns : goal.returns
returns g c = record {
  count = search rules;
  given = λ r h.
      let old = c.args.self.now in
      let bs = c.args.bytes.now in
      let f = c.in_ok-n.ensures.given old.rule.limit r h.framed in
      c.in_ok-take_span.ensures.given r
      (record { unfailed = h.unfailed; framed = f.0; kept = h.kept })
      (part_of old.rule.by_lines (Some old.rule.limit) r bs c.in_ok-n.n c.in_ok-n.ensures.count.0
      c.in_ok-n.ensures.count.1 c.requires.lineless f.1);
  rule = search rules;
  refused = search rules;
}

pub returns-in_err-n : goal.returns-in_err-n
returns-in_err-n g c = record {
  count = grind (arith, common_steps);
  given = λ r h. grind (arith, common_steps);
  rule = search rules;
  refused = λ r h.
      on_any c.from_residual.result
      (c.in_err-n.ensures.refused c.args.self.now.rule.limit r h.framed);
}

pub returns-in_err-take_span : goal.returns-in_err-take_span
returns-in_err-take_span g c = record {
  count = grind (arith, common_steps);
  given = λ r h. grind (arith, common_steps);
  rule = search rules;
  refused = λ r h.
      let f = c.in_ok-n.ensures.given c.args.self.now.rule.limit r h.framed in
      on_any c.from_residual-in_err-take_span.result
      (c.in_err-take_span.ensures.refused r
      (record { unfailed = h.unfailed; framed = f.0; kept = h.kept }));
}
