use Rattle.flat_values.proofs.CommandsBack.{none_found}
use Rattle.flat_values.proofs.read_back.command_of.Goals as goal

pub returns-clause-none : goal.returns-clause-none
returns-clause-none c =
    none_found c.args.kind (c.args.rows.now, c.args.text.now) c.in_ok-command.command
    c.has_fields-has.result c.kept.result c.in_ok-command.ensures.ok c.has_fields-has.ensures.has
    c.kept.ensures
