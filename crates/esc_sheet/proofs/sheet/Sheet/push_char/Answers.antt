use Rattle.std.proofs.Common.{string_bytes}
use Rattle.std.specs.Result.{is_ok}
use Rattle.esc_sheet.specs.Sheets.Part.{Character}
use Rattle.esc_sheet.proofs.Sheets.{sheet_push}
use Rattle.esc_sheet.proofs.sheet.Sheet.push_char.Goals as goal

pub invariant_of-self : goal.invariant_of-self
invariant_of-self c = record {
  safe = sheet_push (is_ok c.push_char.result) (string_bytes c.args.self.now.text)
      (string_bytes c.push_char.new.text) (Character c.args.c) c.requires c.args.self.now.safe
      c.push_char.ensures.bytes;
}
