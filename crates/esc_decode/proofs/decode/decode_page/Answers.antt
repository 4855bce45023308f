use Rattle.std.proofs.Common.{sym}
use Rattle.esc_decode.proofs.Reading.{read_ascii}
use Rattle.esc_decode.specs.Pages.{table_of}
use Rattle.esc_decode.proofs.decode.decode_page.Goals as goal

pub returns-then-is_ascii-clause-becomes : goal.returns-then-is_ascii-clause-becomes
returns-then-is_ascii-clause-becomes g c =
    sym (read_ascii (table_of c.args.page) c.args.bytes.now c.if-is_ascii.ensures.cases)
