use Rattle.std.proofs.Common.{Some}
use Rattle.esc_filter.proofs.Output.NothingWasFed.{begun, filters, nothing}
use Rattle.esc_filter.proofs.GivingBack.GivingBackIsWritable.{closed_more}
use Rattle.esc_actions.specs.Texts.{list_text}
use Rattle.esc_filter.specs.Closing.{closing}
use Rattle.esc_filter.specs.Passing.{closed_text, passed_values, passed_text, IsFiltered}
use Rattle.esc_filter.specs.Characters.{keep_all}
use Rattle.esc_filter.proofs.filtering.filter_stream.Goals as goal

pub returns-clause-holds : goal.returns-clause-holds
returns-clause-holds g c =
    let admits = g.P.Admit.admits c.args.policy in
    let limit = c.args.limit in
    let m = passed_text {A = g.row.A.Denot} (Some limit) admits in
    let e = closed_text {A = g.row.A.Denot} (Some limit) admits in
    let new = begun g.P.Admit.admits keep_all limit c.args.policy c.new-filter.result
    c.new-filter.ensures.policy c.new-filter.ensures.fed in
    let f = filters e m (λ b. IsFiltered b (Some limit) admits)
    (c.passed_reads_back.ensures.ended (Some limit) admits)
    (c.passed_reads_back.ensures.goes_on (Some limit) admits) _ _ _
    (c.pump.ensures.holds m e new (nothing keep_all limit admits)
    (λ s. let vs = passed_values (Some limit) admits s in
    (list_text (closing admits vs), closed_more admits vs))) in
    record {
      read_all = f.read_all;
      written = f.written;
      decided = f.decided;
      endless = f.endless;
      until_refused = f.until_refused;
      beginning = f.beginning;
      read_fault = f.read_fault;
      write_fault = f.write_fault;
    }

pub returns-clause-refused : goal.returns-clause-refused
returns-clause-refused g c =
    let admits = g.P.Admit.admits c.args.policy in
    let limit = c.args.limit in
    let new = begun g.P.Admit.admits keep_all limit c.args.policy c.new-filter.result
    c.new-filter.ensures.policy c.new-filter.ensures.fed in
    c.pump.ensures.refused (passed_text {A = g.row.A.Denot} (Some limit) admits)
    (closed_text {A = g.row.A.Denot} (Some limit) admits) new (nothing keep_all limit admits)
    (λ s. let vs = passed_values (Some limit) admits s in
    (list_text (closing admits vs), closed_more admits vs))
