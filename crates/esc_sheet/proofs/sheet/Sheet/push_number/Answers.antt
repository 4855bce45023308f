use Rattle.std.proofs.Common.{string_bytes}
use Rattle.esc_sheet.proofs.Sheets.{sheet_number}
use Rattle.esc_sheet.proofs.sheet.Sheet.push_number.Goals as goal

pub invariant_of-self : goal.invariant_of-self
invariant_of-self c = record {
  safe = sheet_number c.append_number.result (string_bytes c.args.self.now.text)
      (string_bytes c.append_number.new.text) c.args.number c.args.self.now.safe
      c.append_number.ensures.ok c.append_number.ensures.err;
}
