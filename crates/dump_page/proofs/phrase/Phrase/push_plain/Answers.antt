use Rattle.dump_page.proofs.PlainBytes.{plain_words}
use Rattle.dump_page.proofs.phrase.Phrase.push_plain.Goals as goal

pub push_ascii-requires : goal.push_ascii-requires
push_ascii-requires c = plain_words c.args.words.now c.requires
