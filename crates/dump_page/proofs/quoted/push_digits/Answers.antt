use Rattle.dump_page.proofs.Quoting.{on_ok, quotes_more}
use Rattle.dump_page.proofs.quoted.push_digits.Goals as goal

pub returns : goal.returns
returns c = on_ok c.push_shown-2.result
    (λ low. (_, quotes_more _ _ _ _ _ c.in_ok-push_shown.ensures low))
    c.push_shown-2.ensures
