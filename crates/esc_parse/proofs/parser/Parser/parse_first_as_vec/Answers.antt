use Rattle.std.proofs.Common.{Ok, subst, sym}
use Rattle.esc_parse.proofs.Lists.ListTakesActions.{list_refused, lists_found}
use Rattle.esc_parse.specs.Calls.{FindsFirstList}
use Rattle.esc_parse.proofs.parser.Parser.parse_first_as_vec.Goals as goal

pub returns-in-Ok : goal.returns-in-Ok
returns-in-Ok g c =
    let found = c.firsts_after-found in
    subst (λ o. FindsFirstList (λ l. l.items) c.args.self.now c.args.bytes.now (Ok o)
    found.new.self) (sym c.listed.ensures)
    (lists_found (λ l. l.items) c.args.self.now c.args.bytes.now _ found.result.0 c.in-Ok.found
    found.new.self found.result.1 c.in-Ok.is c.new.ensures.items found.ensures)

pub returns-in-Err : goal.returns-in-Err
returns-in-Err g c =
    let found = c.firsts_after-found in
    list_refused (λ l. l.items) c.args.self.now c.args.bytes.now _ _ found.result.0 c.in-Err.error
    found.new.self c.in-Err.is found.ensures
