use Rattle.std.proofs.Common.{◌≡◌, ◌∙◌, IfOk, map, pos, subst}
use Rattle.esc_values.specs.Clear.{parts_of}
use Rattle.esc_frame.specs.Bodies.{capped_at_i64, value_after}
use Rattle.esc_segments.proofs.Dispatching.{parameters_strip}
use Rattle.esc_segments.proofs.strings.params_in.Goals as goal

pub returns-clause-ok : goal.returns-clause-ok
returns-clause-ok g c =
    subst (λ y. IfOk c.params_of.result (λ v.
    v.items ≡ map (λ p. pos (capped_at_i64 (value_after 0 p))) (parts_of y)))
    (c.deref.ensures.value ∙ c.in_ok-bytes.ensures.ok ∙ parameters_strip c.args.x.now)
    c.params_of.ensures.ok
