use Rattle.std.proofs.Common.{arith, ◌∙◌}
use Rattle.std.proofs.lemmas.Result.{IfErr-at_err}
use Rattle.esc_actions.specs.Values.{value_of}
use Rattle.esc_write.proofs.ActionRuns.{all_written}
use Rattle.esc_write.proofs.Results.{on_any_error}
use Rattle.esc_write.proofs.encoding.spell.Goals as goal

pub actions-preserved : goal.actions-preserved
actions-preserved g c = record {
  few = omega (arith, c.in_ok-left.ensures.less, c.actions.invariant.few);
  text = c.in_ok-left.ensures.text ∙ c.actions.invariant.text;
  have = λ h. c.in_ok-left.ensures.left (c.actions.invariant.have h);
}

pub returns-in_err-left-clause-memory_refused : goal.returns-in_err-left-clause-memory_refused
returns-in_err-left-clause-memory_refused g c = λ h. on_any_error _ (
    IfErr-at_err _ c.in_err-left.was (c.write_some.ensures.refused (c.actions.invariant.have h)))

pub returns-clause-text : goal.returns-clause-text
returns-clause-text g c =
    all_written value_of c.actions.follows_string c.actions.text _ c.actions.rest.now
    c.actions-test.false c.actions.invariant.text
