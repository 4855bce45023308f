use Rattle.std.proofs.Common.{refl, lit<}
use Rattle.esc_actions.specs.Values.{value_of}
use Rattle.esc_write.proofs.ActionRuns.{next_shown}
use Rattle.esc_write.proofs.ShortTexts.{eight_ascii}
use Rattle.esc_write.proofs.runs.eight_of.Goals as goal

pub returns-clause-ascii : goal.returns-clause-ascii
returns-clause-ascii g c =
    eight_ascii _ _ _ _ _ _ _ _ c.in_ok-first.ensures.ascii c.in_ok-second.ensures.ascii
    c.in_ok-third.ensures.ascii c.in_ok-fourth.ensures.ascii
    c.in_ok-fifth.ensures.ascii c.in_ok-sixth.ensures.ascii c.in_ok-seventh.ensures.ascii
    c.in_ok-eighth.ensures.ascii

pub returns-clause-same : goal.returns-clause-same
returns-clause-same g c =
    let xs = c.args.actions.now in
    let few = c.in-len8-up.len_at_least in
    next_shown value_of xs 0 c.first-item.result _ _ few (lit< tt) c.first-item.is
    c.in_ok-first.ensures.shown
    (next_shown value_of xs 1 c.second-item.result _ _ few (lit< tt) c.second-item.is
    c.in_ok-second.ensures.shown
    (next_shown value_of xs 2 c.third-item.result _ _ few (lit< tt) c.third-item.is
    c.in_ok-third.ensures.shown
    (next_shown value_of xs 3 c.fourth-item.result _ _ few (lit< tt) c.fourth-item.is
    c.in_ok-fourth.ensures.shown
    (next_shown value_of xs 4 c.fifth-item.result _ _ few (lit< tt) c.fifth-item.is
    c.in_ok-fifth.ensures.shown
    (next_shown value_of xs 5 c.sixth-item.result _ _ few (lit< tt) c.sixth-item.is
    c.in_ok-sixth.ensures.shown
    (next_shown value_of xs 6 c.seventh-item.result _ _ few (lit< tt) c.seventh-item.is
    c.in_ok-seventh.ensures.shown
    (next_shown value_of xs 7 c.eighth-item.result _ _ few (lit< tt) c.eighth-item.is
    c.in_ok-eighth.ensures.shown refl)))))))
