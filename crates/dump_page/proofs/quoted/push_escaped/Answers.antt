use Rattle.dump_page.proofs.Quoting.{on_ok}
use Rattle.dump_page.proofs.quoted.push_escaped.Goals as goal

pub returns-then-is_shown : goal.returns-then-is_shown
returns-then-is_shown c = on_ok c.push_shown.result (λ k. (_, k)) c.push_shown.ensures
