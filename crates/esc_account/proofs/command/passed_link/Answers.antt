use Rattle.std.proofs.Common.{refl, arith}
use Rattle.esc_account.proofs.AtOnce.CommandsAreLeftOut.{data_utf8}
use Rattle.esc_account.proofs.command.passed_link.Goals as goal

pub returns : goal.returns
returns g c =
    let link = c.is_plain_link.ensures.link c.if-not-is_plain_link.false
    (data_utf8 c.args.text.now c.requires) in
    (refl, (link.2, omega arith))
