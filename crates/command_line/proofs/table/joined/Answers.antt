use Rattle.std.proofs.Common.{rules, ◌≡◌, ◌==◌, length, true, false}
use Rattle.command_line.specs.Words.{lacks_dash, may_take}
use Rattle.command_line.proofs.Words.{strip_is}
use Rattle.command_line.proofs.table.joined.Goals as goal

pub returns : goal.returns
returns c =
    let option = c.args.option.now in
    let takes : may_take option.takes ≡ true = search rules in
    let letter : (length option.letter.now == 0) ≡ false = search rules in
    let dash : lacks_dash option c.args.name.now ≡ false = search rules in
    rw (takes, letter, dash) (strip_is _ _ _ c.strip_prefix.ensures.cases)
