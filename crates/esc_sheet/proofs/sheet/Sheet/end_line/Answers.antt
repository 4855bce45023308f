use Rattle.std.proofs.Common.{refl, string_bytes}
use Rattle.std.specs.Result.{is_ok}
use Rattle.esc_sheet.specs.Sheets.Part.{LineEnd}
use Rattle.esc_sheet.proofs.Sheets.{sheet_push}
use Rattle.esc_sheet.proofs.sheet.Sheet.end_line.Goals as goal

pub invariant_of-self : goal.invariant_of-self
invariant_of-self c = record {
  safe = sheet_push (is_ok c.push_str.result) (string_bytes c.args.self.now.text)
      (string_bytes c.push_str.new.text) LineEnd refl c.args.self.now.safe c.push_str.ensures.bytes;
}
