use Rattle.caret_notation.proofs.Spans.CharactersAreSpans.{wide_admitted}
use Rattle.caret_notation.proofs.Spans.RunsWithoutMark.{nothing_stays, shorter_free}
use Rattle.caret_notation.proofs.text.wide_admitted.Goals as goal

pub returns-then-admits_str-clause-text : goal.returns-then-admits_str-clause-text
returns-then-admits_str-clause-text g c =
    let k = c.unmarked_run-run.result in
    wide_admitted (g.P.Admit.admits c.args.policy.now) c.args.bytes.now c.in-Ok.text.now k
    (shorter_free c.args.bytes.now k c.free_run.result c.unmarked_run-run.ensures.few
    c.free_run.ensures.run) c.in-Ok.ensures.0 c.in-Ok.ensures.1
    (c.admits_str.ensures c.if-admits_str.true)

pub returns-else-admits_str-clause-stays : goal.returns-else-admits_str-clause-stays
returns-else-admits_str-clause-stays g c = nothing_stays c.args.marking

pub returns-in-Err-clause-stays : goal.returns-in-Err-clause-stays
returns-in-Err-clause-stays g c = nothing_stays c.args.marking
