use Rattle.caret_notation.proofs.Spans.CharactersAreSpans.{none_admitted}
use Rattle.caret_notation.proofs.Spans.RunsWithoutMark.{nothing_stays}
use Rattle.caret_notation.proofs.reveal.Reveal.text_run.Goals as goal

pub returns-then-self-lt-MOST_BYTES-clause-text : goal.returns-then-self-lt-MOST_BYTES-clause-text
returns-then-self-lt-MOST_BYTES-clause-text g c = (
  none_admitted (g.P.Admit.admits c.args.self.now.rule.policy),
  nothing_stays c.args.self.now.rule.marking,
)
