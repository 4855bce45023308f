use Rattle.std.proofs.Common.{Some}
use Rattle.escfilter.proofs.AtOnce.{sequence_named}
use Rattle.escfilter.proofs.at_once.name_at_once.Goals as goal

pub returns-in-Some : goal.returns-in-Some
returns-in-Some c =
    sequence_named c.args.options.now c.args.segment _ c.as_slice.result.now c.in-Some.last
    c.left_name.result c.left_name.ensures c.as_slice.ensures c.in-Some.ensures
