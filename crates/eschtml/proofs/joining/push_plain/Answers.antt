use Rattle.std.proofs.Common.{◌++◌, ap, sym, ◌∙◌}
use Rattle.eschtml.proofs.joining.push_plain.Goals as goal

pub returns-clause-ok : goal.returns-clause-ok
returns-clause-ok g c = (
  c.in_ok-extend.ensures.items
      ∙ ap (λ t. c.args.text.now.items ++ t) (sym c.run_of-run.ensures.stay),
  sym c.run_of-run.ensures.held,
)
