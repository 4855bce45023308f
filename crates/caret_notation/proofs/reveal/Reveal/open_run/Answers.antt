use Rattle.caret_notation.proofs.Spans.MoreOfSpan.{feedless_before, feedless_all}
use Rattle.caret_notation.proofs.reveal.Reveal.open_run.Goals as goal

pub returns-in-Some-clause-lineless : goal.returns-in-Some-clause-lineless
returns-in-Some-clause-lineless g c =
    let k = c.in-Some.ensures in
    feedless_before c.args.self.now.rule.by_lines c.args.bytes.now c.in-Some.at k.0.high k.0.before

pub returns-in-None-clause-lineless : goal.returns-in-None-clause-lineless
returns-in-None-clause-lineless g c =
    feedless_all c.args.self.now.rule.by_lines c.args.bytes.now c.in-None.ensures
