use Rattle.std.proofs.Common.{subst}
use Rattle.esc_sequences.specs.Csis.{csi_value}
use Rattle.typed_functions.specs.Functions.{of_csi}
use Rattle.esc_screen.specs.Screens.{Takes as TakesStep}
use Rattle.esc_terminal.specs.Fed.{TakesAll, known_in}
use Rattle.esc_terminal.specs.Steps.{csi_step, function_steps}
use Rattle.esc_terminal.proofs.RectangleSteps.{then_step}
use Rattle.esc_terminal.proofs.state.State.take_csi.Goals as goal

pub returns-clause-ok : goal.returns-clause-ok
returns-clause-ok g c =
    let p = c.args.self.now in
    let q = c.take_function.new.self in
    let u = c.take.new.self in
    let v = csi_value c.args.csi.now in
    then_step p q u (function_steps (known_in p) p.screen.cursor (of_csi v)) (csi_step v) _ _ _
    (subst (λ z. TakesAll p z q) c.of-function.ensures c.in_ok-take_function.ensures.ok)
    (subst (λ x. TakesStep q.screen x u) c.csi_step.ensures c.take.ensures)
