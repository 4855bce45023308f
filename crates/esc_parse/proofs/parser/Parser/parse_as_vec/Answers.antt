use Rattle.std.proofs.Common.{sym, subst, List}
use Rattle.esc_parse.proofs.Lists.StepsOverLists.{if_ok_more}
use Rattle.esc_parse.proofs.parser.Parser.parse_as_vec.Goals as goal
use Rattle.esc_actions.specs.Values.{Value}
use Rattle.esc_actions.specs.Writable.{EmittedAreWritable}

pub returns-clause-handed_out : goal.returns-clause-handed_out
returns-clause-handed_out g c = λ limit s h.
    if_ok_more _ _ c.collect.result
    (λ v w. let P : List (Value g.row.A.Denot) → Type 0 =
    λ x. EmittedAreWritable x in subst P (sym w.1)
    (c.yield_handed_out.ensures limit s c.args.bytes.now))
    (c.collect.ensures.given limit s h)
