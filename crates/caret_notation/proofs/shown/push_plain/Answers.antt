use Rattle.std.proofs.Common.{take, ap, sym, ◌++◌, ◌∙◌}
use Rattle.caret_notation.proofs.VisibleText.PlainShowsItself.{plain_settled}
use Rattle.caret_notation.proofs.shown.push_plain.Goals as goal

pub returns-clause-ok : goal.returns-clause-ok
returns-clause-ok g c =
    let x = take c.plain_run-run.result c.args.bytes.now in
    let k = plain_settled x c.plain_run-run.ensures.plain in
    (c.in_ok-extend.ensures.items ∙ ap (λ t. c.args.text.now.items ++ t) (sym k.0), sym k.1)
