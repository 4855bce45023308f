use Rattle.std.proofs.Common.{[]}
use Rattle.dump_page.proofs.Quoting.{on_ok, quotes_nothing}
use Rattle.dump_page.proofs.quoted.push_separator.Goals as goal

pub returns-then-is_next : goal.returns-then-is_next
returns-then-is_next c = on_ok c.push_marked.result (λ k. (_, k)) c.push_marked.ensures

pub returns : goal.returns
returns c = ([], quotes_nothing _)
