use Rattle.std.proofs.Common.{string_bytes}
use Rattle.esc_sheet.proofs.Sheets.{sheet_lead}
use Rattle.esc_sheet.proofs.sheet.Sheet.push_lead.Goals as goal

pub invariant_of-self : goal.invariant_of-self
invariant_of-self c = record {
  safe = sheet_lead c.append_lead.result (string_bytes c.args.self.now.text)
      (string_bytes c.append_lead.new.text) _ c.args.address.now c.requires
      c.args.self.now.safe c.append_lead.ensures.ok c.append_lead.ensures.err;
}
