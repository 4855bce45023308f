use Rattle.std.proofs.Common.{sym}
use Rattle.esc_osc.proofs.Dynamic.{others_read}
use Rattle.esc_osc.proofs.parse.read_by_code.Goals as goal

pub returns-in-SetTextForegroundColor : goal.returns-in-SetTextForegroundColor
returns-in-SetTextForegroundColor g c =
    rw (
      others_read g.row.A.Denot c.args.code c.args.first.now _ c.in-SetTextForegroundColor.is,
      sym c.changed_by.ensures,
      sym c.reset_by.ensures,
    ) c.read_dynamic.ensures
