use Rattle.dump_page.proofs.PagesMore.{page_added}
use Rattle.dump_page.proofs.phrase.Phrase.append_bytes.Goals as goal

pub invariant_of-self : goal.invariant_of-self
invariant_of-self c = record {
  safe = page_added c.args.self.now.text c.push_bytes_between.new.to
      c.args.self.now.safe c.in-Ok.ensures;
}
