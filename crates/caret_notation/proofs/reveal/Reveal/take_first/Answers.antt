use Rattle.std.proofs.Common.{rules, arith, subst, sym, take}
use Rattle.std.proofs.lemmas.Grind.{common_steps}
use Rattle.caret_notation.proofs.Filters.VerdictOfJudge.{on_any}
use Rattle.caret_notation.proofs.Spans.MoreOfSpan.{part_to}
use Rattle.caret_notation.specs.Fed.{AtRest, GrowsTo}
use Rattle.caret_notation.proofs.reveal.Reveal.take_first.Goals as goal

pub returns : goal.returns
returns g c =
    let old = c.args.self.now in
    let bs = c.args.bytes.now in
    let n = c.in_ok-n.n in
    let put = c.in_ok-put_first in record {
      count = search rules;
      given = λ r (none, h).
          let rest = subst (λ z. AtRest z old) none h in
          let f = c.in_ok-n.ensures.given rest.framed in
          subst (λ z. GrowsTo g.P.Admit z (take n bs) old c.put_first.new.self) (sym none)
          (put.ensures.given
          (record { unfailed = rest.unfailed; framed = f.framed; kept = rest.kept })
          (part_to old.rule.by_lines bs n c.in_ok-n.ensures.count.0 c.in_ok-n.ensures.count.1
          c.requires.lineless f.quiet)
          f.judged);
      rule = search rules;
      refused = search rules;
    }

pub returns-in_err-n : goal.returns-in_err-n
returns-in_err-n g c = record {
  count = grind (arith, common_steps);
  given = λ r h. grind (arith, common_steps);
  rule = search rules;
  refused = λ r (none, h).
      on_any c.from_residual.result
      (c.in_err-n.ensures.refused (subst (λ z. AtRest z c.args.self.now) none h).framed);
}

pub returns-in_err-put_first : goal.returns-in_err-put_first
returns-in_err-put_first g c = record {
  count = grind (arith, common_steps);
  given = λ r h. grind (arith, common_steps);
  rule = grind (arith, common_steps);
  refused = λ r h. grind (arith, common_steps, c.in_err-put_first.ensures.refused);
}
