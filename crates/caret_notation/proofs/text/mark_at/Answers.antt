use Rattle.std.proofs.Common.{◌≡◌, false, length, sym, subst, arith}
use Rattle.std.specs.List.{list_any}
use Rattle.std.proofs.lemmas.List.{take_all}
use Rattle.caret_notation.proofs.Spans.RunsWithoutMark.{before_mark, none_marked}
use Rattle.caret_notation.specs.Visible.{is_mark}
use Rattle.caret_notation.proofs.text.mark_at.Goals as goal

pub returns-in-Some-clause-unmarked : goal.returns-in-Some-clause-unmarked
returns-in-Some-clause-unmarked c =
    let k = c.in-Some.ensures in before_mark c.args.bytes.now c.in-Some.at k.0.high k.0.before

pub returns-in-None-clause-unmarked : goal.returns-in-None-clause-unmarked
returns-in-None-clause-unmarked c =
    let x = c.args.bytes.now in
    subst (λ y. list_any is_mark y ≡ false) (sym (take_all (length x) x (omega arith)))
    (none_marked x c.in-None.ensures)
