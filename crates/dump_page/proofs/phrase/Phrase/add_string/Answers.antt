use Rattle.std.proofs.Common.{rules}
use Rattle.dump_page.proofs.PlainBytes.{plain_quote}
use Rattle.dump_page.proofs.phrase.Phrase.add_string.Goals as goal

pub push_quote-requires : goal.push_quote-requires
push_quote-requires c = plain_quote c.args.value.now (search rules)
