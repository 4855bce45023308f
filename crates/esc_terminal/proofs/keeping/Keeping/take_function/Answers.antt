use Rattle.std.proofs.Common.{ap, refl, sym, ◌∙◌}
use Rattle.typed_functions.specs.Functions.{value_of as function_value}
use Rattle.esc_terminal.specs.Steps.{one_step}
use Rattle.esc_terminal.proofs.Stepping.{ok_then, steps_kept}
use Rattle.esc_terminal.proofs.keeping.Keeping.take_function.Goals as goal

pub returns-in-None-clause-ok : goal.returns-in-None-clause-ok
returns-in-None-clause-ok g c =
    let p = c.args.self.now in
    let f = function_value c.args.function in
    ok_then c.take_function.result
    (λ h. steps_kept g.R.Rows.takes p (record p { state = c.take_function.new.self }) f
    (sym c.in-None.is ∙ c.one_step.ensures ∙ ap (λ k. one_step k f) c.cursor.ensures) h refl)
    c.take_function.ensures.ok
