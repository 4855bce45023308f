use Rattle.escape_stream.proofs.Lent.{text_utf8}
use Rattle.escape_stream.proofs.borrow_adapter.as_str.Goals as goal

pub from_utf8_unchecked-requires : goal.from_utf8_unchecked-requires
from_utf8_unchecked-requires c = text_utf8 c.args.text.now c.requires
