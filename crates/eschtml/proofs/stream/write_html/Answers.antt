use Rattle.std.proofs.Common.{None, Some}
use Rattle.eschtml.proofs.Left.{by_rows}
use Rattle.eschtml.proofs.Lengths.{short_written}
use Rattle.eschtml.proofs.stream.write_html.Goals as goal

pub returns-in-None-clause-holds : goal.returns-in-None-clause-holds
returns-in-None-clause-holds g c =
    let f = by_rows g.row.A.Denot c.args.options.now c.args.options.now.rows None _ _ _
    c.in-None.is c.write_whole.ensures.holds in
    record {
      read_all = f.read_all;
      written = f.written;
      decided = f.decided;
      endless = f.endless;
      until_refused = f.until_refused;
      beginning = f.beginning;
      read_fault = f.read_fault;
      write_fault = f.write_fault;
    }

pub returns-in-Some-clause-holds : goal.returns-in-Some-clause-holds
returns-in-Some-clause-holds g c =
    let f = by_rows g.row.A.Denot c.args.options.now c.args.options.now.rows (Some c.in-Some.rows)
    _ _ _ c.in-Some.is c.write_left.ensures.holds in
    record {
      read_all = f.read_all;
      written = f.written;
      decided = f.decided;
      endless = f.endless;
      until_refused = f.until_refused;
      beginning = f.beginning;
      read_fault = f.read_fault;
      write_fault = f.write_fault;
    }

pub returns-in-None-clause-bounded : goal.returns-in-None-clause-bounded
returns-in-None-clause-bounded g c = λ none.
    short_written g.row.A.Denot c.args.options.now _ _ _ c.write_whole.ensures.holds

pub returns-in-Some-clause-bounded : goal.returns-in-Some-clause-bounded
returns-in-Some-clause-bounded g c = λ none. absurd cc
