use Rattle.std.proofs.Common.{rules}
use Rattle.dump_page.proofs.Quoting.{on_ok, quotes_itself}
use Rattle.dump_page.proofs.quoted.push_shown.Goals as goal

pub returns : goal.returns
returns c = on_ok c.push.result
    (quotes_itself _ _ c.args.c c.requires (search rules) (search rules))
    c.push.ensures.ok
