use Rattle.std.proofs.Common.{string_bytes}
use Rattle.esc_sheet.proofs.Sheets.{sheet_change}
use Rattle.esc_sheet.proofs.sheet.Sheet.push_change.Goals as goal

pub invariant_of-self : goal.invariant_of-self
invariant_of-self c = record {
  safe = sheet_change c.append_change.result (string_bytes c.args.self.now.text)
      (string_bytes c.append_change.new.text) c.args.from.now c.args.to.now c.args.self.now.safe
      c.append_change.ensures.ok c.append_change.ensures.err;
}
