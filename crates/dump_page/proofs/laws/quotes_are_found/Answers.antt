use Rattle.dump_page.proofs.Finding.{found_as_quoted}
use Rattle.dump_page.proofs.laws.quotes_are_found.Goals as goal

pub returns : goal.returns
returns c = found_as_quoted
