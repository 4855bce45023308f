use Rattle.std.proofs.Common.{List, ap, subst}
use Rattle.esc_actions.specs.declared.action.Action.{Action}
use Rattle.esc_parse.specs.Calls.{FindsFirsts}
use Rattle.esc_parse.proofs.parser.Parser.firsts_of.Goals as goal

pub returns : goal.returns
returns g c =
    let found = c.firsts_after-found in
    let P : List (Action g.row.A.Denot) → Type 0 = λ had. FindsFirsts c.args.self.now
    c.args.bytes.now had found.result.0 found.new.self found.result.1.items in
    subst P (ap (λ v. v.items) c.replace-had.ensures.value) found.ensures
