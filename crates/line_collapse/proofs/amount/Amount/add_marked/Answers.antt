use Rattle.std.proofs.Common.{◌+◌}
use Rattle.std.specs.Char.{len_utf8}
use Rattle.line_collapse.specs.RowText.{some_bytes, some_chars}
use Rattle.line_collapse.proofs.Adding.{both_added}
use Rattle.line_collapse.proofs.amount.Amount.add_marked.Goals as goal

pub returns : goal.returns
returns c =
    let m = c.args.marks in
    both_added 1 (len_utf8 c.args.c) (some_chars m.first + some_chars m.second)
    (some_bytes m.first + some_bytes m.second) _ _ _ c.add_some.ensures
    (both_added (some_chars m.first) (some_bytes m.first) (some_chars m.second)
    (some_bytes m.second) _ _ _ c.add_some-2.ensures c.add_some-3.ensures)
