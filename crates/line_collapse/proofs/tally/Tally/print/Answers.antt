use Rattle.std.proofs.Common.{Some}
use Rattle.std.proofs.lemmas.Result.{IfErr-at_err}
use Rattle.esc_parse.proofs.Lists.StepsOverLists.{on_ok_at}
use Rattle.line_collapse.proofs.Printing.{stops_refused, stream_printed}
use Rattle.line_collapse.proofs.tally.Tally.print.Goals as goal

pub returns-in-Ok-clause-given : goal.returns-in-Ok-clause-given
returns-in-Ok-clause-given g c = λ m n s rs h.
    let k = on_ok_at _ c.in-Ok.is (c.parse_into-result.ensures.given (Some 0x1000) s h.parser) in
    let t = stream_printed g.row.A.Denot m n s c.args.text.now _ _ h.height h.width h.printed k.1 in
    record {
      parser = k.0;
      height = t.0;
      width = t.1;
      printed = t.2;
      kept = h.kept;
    }

pub returns-in-Err-clause-refused : goal.returns-in-Err-clause-refused
returns-in-Err-clause-refused g c = λ m n s rs h.
    let f = IfErr-at_err _ c.in-Err.is
    (c.parse_into-result.ensures.refused (Some 0x1000) s h.parser) in
    stops_refused _ _ (λ o. o.1) _ _ _ f.2
