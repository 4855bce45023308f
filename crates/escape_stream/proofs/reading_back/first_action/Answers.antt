use Rattle.std.proofs.Common.{None, []}
use Rattle.escape_stream.proofs.Backs.{nothing_given, some_given}
use Rattle.esc_actions.specs.Values.{value_of}
use Rattle.escape_stream.proofs.reading_back.first_action.Goals as goal

pub returns-in-Ok-Some-clause-meant : goal.returns-in-Ok-Some-clause-meant
returns-in-Ok-Some-clause-meant g c =
    some_given value_of c.args.bytes.now _ _ _ c.in-Ok-Some.field-0-is
    (c.in-Ok-Some.ensures.some None [] c.new-parser.ensures)

pub returns-in-Ok-None-clause-meant : goal.returns-in-Ok-None-clause-meant
returns-in-Ok-None-clause-meant g c =
    nothing_given c.args.bytes.now _ _ c.in-Ok-None.field-0-is
    (c.in-Ok-None.ensures.none None [] c.new-parser.ensures)

pub returns-clause-refused : goal.returns-clause-refused
returns-clause-refused g c = (c.in-Err.ensures.refused None [] c.new-parser.ensures).3
