use Rattle.std.proofs.Common.{[], arith, max, refl, subst, sym}
use Rattle.std.proofs.KnownBytes.{Appends-nil, Consumes-nil}
use Rattle.std.specs.Io.KnownBytes.{Appends}
use Rattle.esc_normal.proofs.Results.{not_failed, prefix_none}
use Rattle.line_collapse.specs.Fed.{final_after, left_after}
use Rattle.line_collapse.specs.Windows.{window_size}
use Rattle.line_collapse.proofs.Streams.{final_after_nil, left_after_more}
use Rattle.line_collapse.proofs.filtering.collapse_from.Goals as goal

pub returns-clause-holds : goal.returns-clause-holds
returns-clause-holds g c = λ m e fresh none more.
    let A = g.row.A.Denot in
    let z = window_size (max c.args.rows 1) c.args.columns in
    let f = c.pump.ensures.holds (final_after A z m) (left_after A z e)
    (z, m, e, c.in-Ok.ensures.fed m e fresh none, refl, refl)
    (final_after_nil A z m none) (left_after_more A z m e more) in
    record {
      read_all = f.read_all;
      written = f.written;
      decided = f.decided;
      endless = f.endless;
      until_refused = f.until_refused;
      beginning = f.beginning;
      read_fault = f.read_fault;
      write_fault = f.write_fault;
    }

pub returns-in_default-clause-holds : goal.returns-in_default-clause-holds
returns-in_default-clause-holds g c = λ m e fresh none more.
    let A = g.row.A.Denot in
    let z = window_size (max c.args.rows 1) c.args.columns in
    let held = g.W.Write.contents c.args.writer.now.inner in
    record {
      read_all = tt;
      written = tt;
      decided = λ k. absurd cc;
      endless = λ k. absurd cc;
      until_refused = λ k. (
        [],
        [],
        final_after A z m [],
        omega arith,
        Consumes-nil _,
        subst (λ t. Appends held held t) (sym (final_after_nil A z m none)) (Appends-nil _),
        refl,
      );
      beginning = ([], Consumes-nil _, prefix_none _ (left_after A z e []));
      read_fault = not_failed _ _ _ (λ k. absurd cc);
      write_fault = not_failed _ _ _ (λ k. absurd cc);
    }

pub returns-clause-refused : goal.returns-clause-refused
returns-clause-refused g c = λ m e fresh none more.
    let A = g.row.A.Denot in
    let z = window_size (max c.args.rows 1) c.args.columns in
    c.pump.ensures.refused (final_after A z m) (left_after A z e)
    (z, m, e, c.in-Ok.ensures.fed m e fresh none, refl, refl)
    (final_after_nil A z m none) (left_after_more A z m e more)
