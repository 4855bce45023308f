use Rattle.std.proofs.Common.{sym, subst}
use Rattle.dump_page.specs.Quoted.{IsQuote}
use Rattle.dump_page.proofs.quote.Quote.as_str.Goals as goal

pub returns : goal.returns
returns c = subst (λ x. ∥ IsQuote x ∥₁) (sym c.as_str.ensures) c.args.self.now.reads
