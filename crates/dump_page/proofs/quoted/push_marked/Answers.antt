use Rattle.dump_page.proofs.Quoting.{on_ok, quotes_marked}
use Rattle.dump_page.proofs.quoted.push_marked.Goals as goal

pub returns : goal.returns
returns c = on_ok c.push-2.result
    (quotes_marked _ _ _ c.args.c c.requires.shown c.requires.other c.in_ok-push.ensures.ok)
    c.push-2.ensures.ok
