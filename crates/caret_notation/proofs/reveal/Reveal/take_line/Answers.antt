use Rattle.std.proofs.Common.{arith, rules, subst, sym}
use Rattle.std.proofs.lemmas.Grind.{common_steps}
use Rattle.std.proofs.lemmas.List.{take_more}
use Rattle.caret_notation.specs.Fed.{GrowsBy, added_by}
use Rattle.caret_notation.proofs.reveal.Reveal.take_line.Goals as goal

pub returns-then-run-eq0 : goal.returns-then-run-eq0
returns-then-run-eq0 g c =
    let new = c.end_line.new.self in
    let old = c.args.self.now in record {
      count = search rules;
      given = λ r h.
          subst (λ x. GrowsBy g.P.Admit old.rule r x (added_by old) (added_by new) new)
          (sym (take_more c.args.bytes.now 0 0 (omega arith))) (c.in_ok-end_line.ensures.given r h);
      rule = search rules;
      refused = search rules;
    }

pub returns : goal.returns
returns g c = record {
  count = grind (arith, common_steps);
  given = c.in_ok-take_open.ensures.given;
  rule = search rules;
  refused = search rules;
}

pub returns-in_err-end_line : goal.returns-in_err-end_line
returns-in_err-end_line g c = record {
  count = grind (arith, common_steps);
  given = λ r h. grind (arith, common_steps);
  rule = grind (arith, common_steps);
  refused = λ r h. grind (arith, common_steps, c.in_err-end_line.ensures.refused r h);
}

pub returns-in_err-take_open : goal.returns-in_err-take_open
returns-in_err-take_open g c = record {
  count = grind (arith, common_steps);
  given = λ r h. grind (arith, common_steps);
  rule = grind (arith, common_steps);
  refused = λ r h. grind (arith, common_steps, c.in_err-take_open.ensures.refused r h);
}
