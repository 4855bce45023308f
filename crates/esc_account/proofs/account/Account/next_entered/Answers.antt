use Rattle.std.proofs.Common.{◌∷◌, [], take, drop, take-append-drop, sym, arith}
use Rattle.esc_account.specs.Leaving.{left_entry}
use Rattle.esc_account.proofs.AtOnce.SequencesAreLeftOut.{left_finishes}
use Rattle.esc_account.proofs.AtOnce.SequencesPassAtOnce.{passed_finishes}
use Rattle.esc_account.proofs.AtOnce.TextPassesAtOnce.{passes_finishes}
use Rattle.esc_account.proofs.Entries.FinishedAreEntered.{takes_none}
use Rattle.esc_account.proofs.account.Account.next_entered.Goals as goal

pub returns-in-Ok-clause-finishes : goal.returns-in-Ok-clause-finishes
returns-in-Ok-clause-finishes g c =
    let s = c.args.bytes.now in
    let x = c.args.self in
    let n = c.left_ahead-left.result in (
      left_entry x (take n s) ∷ [],
      left_finishes c.args.ends (g.J.Judge.rule c.args.judge.now) x c.in-Ok.longer s (take n s)
          (drop n s) (sym (take-append-drop n s))
          (c.left_ahead-left.ensures.left (omega (arith, c.if-left-gt0.true)))
          c.in-Ok.ensures.entered,
      λ es old. c.in-Ok.ensures.given es old,
    )

pub returns-then-run-gt0-clause-finishes : goal.returns-then-run-gt0-clause-finishes
returns-then-run-gt0-clause-finishes g c = (
  [],
  passes_finishes c.args.ends (g.J.Judge.rule c.args.judge.now) c.args.self
      c.text_passed-run.result.0 c.args.bytes.now _ c.text_passed-run.ensures.passes,
  λ es old. takes_none (g.B.Book.was_given c.args.book.now) es old,
)

pub returns-then-passed-gt0-clause-finishes : goal.returns-then-passed-gt0-clause-finishes
returns-then-passed-gt0-clause-finishes g c =
    let s = c.args.bytes.now in
    let n = c.passed_ahead-passed.result in (
      [],
      passed_finishes c.args.ends (g.J.Judge.rule c.args.judge.now) c.args.self
          c.sequence_passed.result s (take n s) (drop n s) (sym (take-append-drop n s))
          (c.passed_ahead-passed.ensures.passed (omega (arith, c.if-passed-gt0.true)))
          c.sequence_passed.ensures.entered,
      λ es old. takes_none (g.B.Book.was_given c.args.book.now) es old,
    )
