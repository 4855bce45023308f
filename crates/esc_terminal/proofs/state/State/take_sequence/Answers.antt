use Rattle.std.proofs.Common.{subst}
use Rattle.typed_functions.specs.Functions.{of_params}
use Rattle.esc_screen.specs.Screens.{Takes as TakesStep}
use Rattle.esc_terminal.specs.Fed.{TakesAll, known_in}
use Rattle.esc_terminal.specs.Steps.{function_steps, sequence_step}
use Rattle.esc_terminal.proofs.RectangleSteps.{then_step}
use Rattle.esc_terminal.proofs.state.State.take_sequence.Goals as goal

pub returns-clause-ok : goal.returns-clause-ok
returns-clause-ok g c =
    let p = c.args.self.now in
    let q = c.take_function.new.self in
    let u = c.take.new.self in
    let es = c.args.params.now in
    let f = of_params es c.args.last in
    then_step p q u (function_steps (known_in p) p.screen.cursor f) (sequence_step es c.args.last)
    _ _ _
    (subst (λ z. TakesAll p z q) c.of_params-function.ensures c.in_ok-take_function.ensures.ok)
    (subst (λ x. TakesStep q.screen x u) c.sequence_step.ensures c.take.ensures)
