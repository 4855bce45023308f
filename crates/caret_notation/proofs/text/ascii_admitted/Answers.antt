use Rattle.std.proofs.Common.{◌≡◌, true, take, subst, sym}
use Rattle.std.specs.List.{list_all}
use Rattle.esc_frame.proofs.ByteRuns.ManyBytes.{run_passes}
use Rattle.esc_frame.specs.Scans.{is_text_byte}
use Rattle.caret_notation.proofs.Spans.CharactersAreSpans.{ascii_admitted, none_admitted}
use Rattle.caret_notation.proofs.Spans.RunsWithoutMark.{nothing_stays, shorter_all}
use Rattle.caret_notation.proofs.text.ascii_admitted.Goals as goal

pub returns-then-admits_text-clause-text : goal.returns-then-admits_text-clause-text
returns-then-admits_text-clause-text g c =
    let bytes = c.args.bytes.now in
    let n = c.ascii_run.result in
    let k = c.unmarked_run-run.result in
    ascii_admitted (g.P.Admit.admits c.args.policy.now) (take k bytes)
    (shorter_all is_text_byte bytes k n c.unmarked_run-run.ensures.few
    (subst (λ i. list_all is_text_byte (take i bytes) ≡ true) (sym c.ascii_run.ensures.run)
    (run_passes is_text_byte bytes)))
    (c.admits_text.ensures c.if-admits_text.true)

pub returns-else-admits_text-clause-text : goal.returns-else-admits_text-clause-text
returns-else-admits_text-clause-text g c = none_admitted (g.P.Admit.admits c.args.policy.now)

pub returns-else-admits_text-clause-stays : goal.returns-else-admits_text-clause-stays
returns-else-admits_text-clause-stays g c = nothing_stays c.args.marking
