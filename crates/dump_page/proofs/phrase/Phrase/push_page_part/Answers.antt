use Rattle.dump_page.proofs.PagesMore.{page_grow}
use Rattle.dump_page.proofs.phrase.Phrase.push_page_part.Goals as goal

pub invariant_of-self : goal.invariant_of-self
invariant_of-self c = record {
  safe = page_grow c.push_str.result c.args.self.now.text c.push_str.new.self c.args.page_part.now
      c.requires c.args.self.now.safe c.push_str.ensures.ok c.push_str.ensures.err;
}
