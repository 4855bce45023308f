use Rattle.dump_page.proofs.Quoting.{on_ok, quotes_more}
use Rattle.dump_page.proofs.quoted.push_unit.Goals as goal

pub returns : goal.returns
returns c =
    let marked = c.in_ok-push_marked.ensures in
    let high = c.in_ok-push_digits.ensures in
    on_ok c.push_digits-2.result
    (λ low. (_, quotes_more _ _ _ _ _ (quotes_more _ _ _ _ _ marked high.1) low.1))
    c.push_digits-2.ensures
