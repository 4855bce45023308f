use Rattle.dump_page.specs.Pages.PagePart.{Word}
use Rattle.dump_page.proofs.PagesMore.{page_push}
use Rattle.dump_page.proofs.phrase.Phrase.push_word.Goals as goal

pub invariant_of-self : goal.invariant_of-self
invariant_of-self c = record {
  safe = page_push c.push.result c.args.self.now.text c.push.new.self (Word c.args.c) c.requires
      c.args.self.now.safe c.push.ensures.ok c.push.ensures.err;
}
