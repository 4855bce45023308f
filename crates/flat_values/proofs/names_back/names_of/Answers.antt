use Rattle.std.proofs.Common.{◌↔◌, IfOk, IsTrue, subst}
use Rattle.flat_values.proofs.NamesBack.{no_names}
use Rattle.flat_values.specs.FoundNames.{HasNames}
use Rattle.flat_values.proofs.names_back.names_of.Goals as goal

pub returns-clause-none : goal.returns-clause-none
returns-clause-none c =
    let told = subst (λ ns. IfOk c.has_names-has.result (λ b. IsTrue b
    ↔ HasNames (c.args.rows.now, c.args.text.now) ns)) c.as_slice.ensures
    c.has_names-has.ensures.has in
    no_names (c.args.rows.now, c.args.text.now) c.in_ok-names.names c.has_names-has.result
    c.kept.result c.in_ok-names.ensures.ok told c.kept.ensures
