use Rattle.dump_page.proofs.Quoting.{quote_put}
use Rattle.dump_page.proofs.quoted.push_bytes_between.Goals as goal

pub returns : goal.returns
returns c =
    quote_put c.push-2.result _ _ _ _ c.in_ok-push.ensures.ok
    (_, c.in_ok-push_quoted.ensures)
    c.push-2.ensures.ok
