use Rattle.dump_page.proofs.Quoting.{quote_more}
use Rattle.dump_page.proofs.quote.Quote.add.Goals as goal

pub invariant_of-self : goal.invariant_of-self
invariant_of-self c = record {
  reads = quote_more c.args.self.now.text c.push_quoted.new.to c.args.self.now.reads
      (_, c.in-Ok.ensures);
}
