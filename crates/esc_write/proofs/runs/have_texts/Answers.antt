use Rattle.std.proofs.Common.{sym, ◌∙◌}
use Rattle.esc_actions.specs.Texts.{has_text}
use Rattle.esc_actions.specs.Values.{value_of}
use Rattle.esc_write.proofs.ActionRuns.{all_back, none_prefix}
use Rattle.esc_write.proofs.runs.have_texts.Goals as goal

pub eights-preserved : goal.eights-preserved
eights-preserved g c =
    c.eights.invariant
    ∙ all_back (λ a. has_text (value_of a)) 8 c.eights.rest.now _ _ c.split_at.ensures.front
    c.split_at.ensures.back
    (sym c.few_have_texts.ensures ∙ c.if-not-few_have_texts.false)

pub returns-then-not-few_have_texts : goal.returns-then-not-few_have_texts
returns-then-not-few_have_texts g c = sym (
    c.eights.invariant
    ∙ none_prefix (λ a. has_text (value_of a)) 8 c.eights.rest.now _ _ c.split_at.ensures.front
    c.split_at.ensures.back
    (sym c.few_have_texts.ensures ∙ c.if-not-few_have_texts.true))
