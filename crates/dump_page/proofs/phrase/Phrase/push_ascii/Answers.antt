use Rattle.dump_page.proofs.PagesMore.{page_more}
use Rattle.dump_page.proofs.PlainBytes.{word_page}
use Rattle.dump_page.proofs.phrase.Phrase.push_ascii.Goals as goal

pub invariant_of-self : goal.invariant_of-self
invariant_of-self c = record {
  safe = page_more c.push_str.result c.args.self.now.text c.push_str.new.self
      c.args.words.now (word_page c.args.words.now c.requires) c.args.self.now.safe
      c.push_str.ensures.ok c.push_str.ensures.err;
}
