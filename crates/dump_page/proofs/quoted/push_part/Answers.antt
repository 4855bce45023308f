use Rattle.std.proofs.Common.{rules, []}
use Rattle.dump_page.proofs.PlainBytes.{plain_pushed}
use Rattle.dump_page.proofs.Quoting.{on_ok, quotes_more, quotes_nothing}
use Rattle.dump_page.proofs.quoted.push_part.Goals as goal

pub loop-part-init : goal.loop-part-init
loop-part-init c = ([], quotes_nothing _)

pub loop-part-preserved : goal.loop-part-preserved
loop-part-preserved c =
    let held = c.loop-part.invariant in
    let separated = c.in_ok-push_separator.ensures in
    let pushed = c.in_ok-push_run.ensures in
    (_, quotes_more _ _ _ _ _ (quotes_more _ _ _ _ _ held.1 separated.1) pushed.1)

pub returns-then-is_plain : goal.returns-then-is_plain
returns-then-is_plain c =
    on_ok c.push_str.result (λ k. (_, k))
    (plain_pushed c.push_str.result c.args.to.now c.push_str.new.self c.args.text.now (search rules)
    c.push_str.ensures.ok)
