use Rattle.dump_page.proofs.PlainBytes.{plain_quote}
use Rattle.dump_page.proofs.phrase.Phrase.add_plain_string.Goals as goal

pub push_quote-requires : goal.push_quote-requires
push_quote-requires c = plain_quote _ c.in-Some.ensures.0
