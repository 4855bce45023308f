use Rattle.std.proofs.Common.{subst}
use Rattle.esc_sequences.specs.Csis.{csi_value}
use Rattle.esc_screen.specs.Screens.{Takes as TakesStep}
use Rattle.esc_terminal.specs.Kept.{KeepsFunction}
use Rattle.esc_terminal.proofs.RectangleSteps.{then_kept}
use Rattle.esc_terminal.proofs.keeping.Keeping.take_csi.Goals as goal

pub returns-clause-ok : goal.returns-clause-ok
returns-clause-ok g c =
    let T = g.R.Rows.takes in
    let p = c.args.self.now in
    let q = c.take_function.new.self in
    then_kept T p q c.take.new.self (csi_value c.args.csi.now)
    (subst (λ z. KeepsFunction T p z q) c.of-function.ensures c.in_ok-take_function.ensures.ok)
    (subst (λ x. TakesStep q.state.screen x c.take.new.self) c.csi_step.ensures c.take.ensures)
