use Rattle.std.proofs.Common.{[]}
use Rattle.dump_page.proofs.Quoting.{quotes_more, quotes_nothing}
use Rattle.dump_page.proofs.quoted.push_string.Goals as goal

pub loop-part-init : goal.loop-part-init
loop-part-init c = ([], quotes_nothing _)

pub loop-part-preserved : goal.loop-part-preserved
loop-part-preserved c =
    let held = c.loop-part.invariant in
    let separated = c.in_ok-push_separator.ensures in
    let pushed = c.in_ok-push_part.ensures in
    (_, quotes_more _ _ _ _ _ (quotes_more _ _ _ _ _ held.1 separated.1) pushed.1)
