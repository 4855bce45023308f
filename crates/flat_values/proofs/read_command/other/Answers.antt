use Rattle.std.proofs.Common.{ap}
use Rattle.esc_osc.specs.declared.command.OperatingSystemCommand.TheVariants as command
use Rattle.flat_values.proofs.read_command.other.Goals as goal

pub returns-in_ok-items-in-Unspecified-clause-ok :
    goal.returns-in_ok-items-in-Unspecified-clause-ok
returns-in_ok-items-in-Unspecified-clause-ok c =
    rw c.in-Unspecified.is (ap command.Unspecified c.in_ok-items-in-Unspecified.ensures.ok)

pub returns-in_ok-link-in-Hyperlink-clause-ok : goal.returns-in_ok-link-in-Hyperlink-clause-ok
returns-in_ok-link-in-Hyperlink-clause-ok c =
    rw c.in-Hyperlink.is (ap command.SetHyperlink c.in_ok-link-in-Hyperlink.ensures.ok)

pub returns-in_ok-colored_items-in-ColorNumber-clause-ok :
    goal.returns-in_ok-colored_items-in-ColorNumber-clause-ok
returns-in_ok-colored_items-in-ColorNumber-clause-ok c =
    rw c.in-ColorNumber.is
    (ap command.ChangeColorNumber c.in_ok-colored_items-in-ColorNumber.ensures.ok)

pub returns-in_ok-items-in-ResetColors-clause-ok :
    goal.returns-in_ok-items-in-ResetColors-clause-ok
returns-in_ok-items-in-ResetColors-clause-ok c =
    rw c.in-ResetColors.is (ap command.ResetColors c.in_ok-items-in-ResetColors.ensures.ok)

pub returns-in_ok-items-in-Rxvt-clause-ok : goal.returns-in_ok-items-in-Rxvt-clause-ok
returns-in_ok-items-in-Rxvt-clause-ok c =
    rw c.in-Rxvt.is (ap command.RxvtExtension c.in_ok-items-in-Rxvt.ensures.ok)
