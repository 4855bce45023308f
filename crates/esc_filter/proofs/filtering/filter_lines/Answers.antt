use Rattle.std.proofs.Common.{refl, true, false}
use Rattle.esc_filter.proofs.ByLine.LinesAreStreams.{closed_longer}
use Rattle.esc_filter.proofs.Output.NothingWasFed.{begun_lines, filters}
use Rattle.esc_filter.specs.Lines.{closed_by_lines, text_by_lines, IsFilteredByLines}
use Rattle.esc_filter.specs.Characters.{keep_all}
use Rattle.esc_filter.proofs.filtering.filter_lines.Goals as goal

pub returns-clause-holds : goal.returns-clause-holds
returns-clause-holds g c =
    let admits = g.P.Admit.admits c.args.policy in
    let limit = c.args.limit in
    let m = text_by_lines {A = g.row.A.Denot} limit admits in
    let e = closed_by_lines {A = g.row.A.Denot} limit admits in
    let new = begun_lines g.P.Admit.admits keep_all limit c.args.policy c.new-filter.result
    c.new-filter.ensures.policy c.new-filter.ensures.fed in
    let f = filters e m (λ b. IsFilteredByLines b limit admits)
    (c.lines_read_back.ensures true limit admits)
    (c.lines_read_back.ensures false limit admits) _ _ _
    (c.pump.ensures.holds m e new refl
    (closed_longer keep_all limit admits)) in
    record {
      read_all = f.read_all;
      written = f.written;
      decided = f.decided;
      endless = f.endless;
      until_refused = f.until_refused;
      beginning = f.beginning;
      read_fault = f.read_fault;
      write_fault = f.write_fault;
    }

pub returns-clause-refused : goal.returns-clause-refused
returns-clause-refused g c =
    let admits = g.P.Admit.admits c.args.policy in
    let limit = c.args.limit in
    let new = begun_lines g.P.Admit.admits keep_all limit c.args.policy c.new-filter.result
    c.new-filter.ensures.policy c.new-filter.ensures.fed in
    c.pump.ensures.refused (text_by_lines {A = g.row.A.Denot} limit admits)
    (closed_by_lines {A = g.row.A.Denot} limit admits) new refl
    (closed_longer keep_all limit admits)
