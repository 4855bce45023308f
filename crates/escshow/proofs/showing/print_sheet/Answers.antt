use Rattle.escshow.proofs.Printed.{sheet_printed}
use Rattle.escshow.proofs.showing.print_sheet.Goals as goal

pub returns : goal.returns
returns g c =
    sheet_printed c.print.result _ _ c.as_str.result.now c.as_str.ensures c.print.ensures
