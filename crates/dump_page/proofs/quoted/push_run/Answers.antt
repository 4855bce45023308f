use Rattle.std.proofs.Common.{rules, []}
use Rattle.dump_page.proofs.PlainBytes.{plain_pushed}
use Rattle.dump_page.proofs.Quoting.{on_ok, quotes_more, quotes_nothing}
use Rattle.dump_page.proofs.quoted.push_run.Goals as goal

pub loop-c-init : goal.loop-c-init
loop-c-init c = ([], quotes_nothing _)

pub loop-c-preserved : goal.loop-c-preserved
loop-c-preserved c =
    let held = c.loop-c.invariant in
    (_, quotes_more _ _ _ _ _ held.1 c.in_ok-push_escaped.ensures.1)

pub returns-then-is_plain : goal.returns-then-is_plain
returns-then-is_plain c =
    on_ok c.push_str.result (λ k. (_, k))
    (plain_pushed c.push_str.result c.args.to.now c.push_str.new.self c.args.text.now (search rules)
    c.push_str.ensures.ok)
