use Rattle.std.proofs.Common.{sym}
use Rattle.command_line.proofs.Units.{sized, unsized}
use Rattle.command_line.proofs.sizes.size_of.Goals as goal

pub returns-in-Ok : goal.returns-in-Ok
returns-in-Ok c =
    let value = c.in-Ok.ensures.value in
    let cut = c.without_unit-factor.result in
    sized c.args.text.now cut.0.now cut.1 _ c.checked_mul.result c.without_unit-factor.ensures
    value.0.0.0 (sym value.0.1) c.checked_mul.ensures

pub returns-in-Err : goal.returns-in-Err
returns-in-Err c =
    let cut = c.without_unit-factor.result in
    unsized c.args.text.now cut.0.now cut.1 c.without_unit-factor.ensures c.in-Err.ensures.value.0
