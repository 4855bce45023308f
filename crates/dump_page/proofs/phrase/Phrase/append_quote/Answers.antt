use Rattle.dump_page.proofs.PagesMore.{page_quoted}
use Rattle.dump_page.proofs.phrase.Phrase.append_quote.Goals as goal

pub invariant_of-self : goal.invariant_of-self
invariant_of-self c = record {
  safe = page_quoted c.args.self.now.text c.push_between.new.to c.args.quoted.now
      c.args.self.now.safe c.requires c.in-Ok.ensures;
}
