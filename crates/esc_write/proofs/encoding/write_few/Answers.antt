use Rattle.std.proofs.Common.{length, map, ap, arith, rules, ◌∙◌}
use Rattle.std.proofs.lemmas.Grind.{common_steps}
use Rattle.std.proofs.lemmas.Result.{IfErr-at_err}
use Rattle.esc_actions.specs.Texts.{has_text}
use Rattle.esc_actions.specs.Values.{value_of}
use Rattle.esc_write.proofs.ActionRuns.{first_passes, one_text, others_pass}
use Rattle.esc_write.proofs.Results.{on_any_error}
use Rattle.esc_write.proofs.encoding.write_few.Goals as goal

pub few-preserved : goal.few-preserved
few-preserved g c = record {
  less = omega (arith, ap length c.in-Some.ensures.cases.0);
  text =
      one_text c.few.follows _ c.few.text c.write_next.new.text (value_of c.in-Some.action.now)
      (map value_of c.few.rest.now) (map value_of c.in-Some.more.now)
      (ap (map value_of) c.in-Some.ensures.cases.0)
      c.in_ok-follows.ensures.ok.0 c.in_ok-follows.ensures.ok.1
      ∙ c.few.invariant.text;
  have = λ h.
      others_pass (λ a. has_text (value_of a)) c.few.rest.now _ _ c.in-Some.ensures.cases.0
      (c.few.invariant.have h);
}

pub returns-in_err-follows : goal.returns-in_err-follows
returns-in_err-follows g c = record {
  text = search rules;
  less = search rules;
  left = search rules;
  refused = λ h. on_any_error _ (
      IfErr-at_err _ c.in_err-follows.was (c.write_next.ensures.refused (
      first_passes (λ a. has_text (value_of a)) c.few.rest.now _ _ c.in-Some.ensures.cases.0
      (c.few.invariant.have h))));
}

pub returns : goal.returns
returns g c = record {
  text = c.few.invariant.text;
  less = grind (arith, common_steps);
  left = c.few.invariant.have;
  refused = search rules;
}
