use Rattle.std.proofs.Common.{[], refl, rules, subst, sym, append-nil}
use Rattle.std.proofs.KnownBytes.{Appends-nil, Consumes-nil}
use Rattle.std.proofs.lemmas.Result.{on_err_weaker}
use Rattle.std.specs.Io.KnownBytes.{Appends, Consumes}
use Rattle.esc_parse.proofs.Lists.StepsOverLists.{on_ok_more}
use Rattle.esc_normal.proofs.Results.{none_within, not_failed, ok_any, other, prefix_after, prefix_none, unfailed, written_more}
use Rattle.esc_normal.specs.declared.filter_error.FilterError.TheVariants as fault
use Rattle.esc_normal.proofs.filtering.pump.Goals as goal

pub returns-in-Ok-filter_all-clause-holds : goal.returns-in-Ok-filter_all-clause-holds
returns-in-Ok-filter_all-clause-holds g c = λ m e fresh none more.
    let f = c.in-Ok-filter_all.ensures in
    let r = f.fed m e fresh none more in
    let ends = c.end.ensures in
    record {
      read_all = ok_any c.end.result f.read_all;
      written = on_ok_more _ _ c.end.result
          (λ w. (r.0, e r.0, r.2, written_more _ _ _ _ w.1.0 _ r.3 w.1.2 w.1.1, refl))
          (ends.given m e r.0 r.1);
      decided = λ k. absurd (ends.no_read k);
      endless = λ k. absurd (ends.no_end k);
      until_refused = λ k. (
        r.0,
        [],
        m r.0,
        none_within _,
        subst (λ s. Consumes (g.R.Read.remaining c.args.reader.now.inner)
            (g.R.Read.remaining c.filter_all.new.reader.inner) s) (sym (append-nil r.0)) r.2,
        subst (λ w. Appends (g.W.Write.contents c.args.writer.now.inner)
            (g.W.Write.contents w.inner) (m r.0)) (sym (ends.unwritten k)) r.3,
        refl,
      );
      beginning = on_err_weaker c.end.result
          (λ w. (r.0, r.2, prefix_after _ _ _ _ w.0 _ r.3 w.2 w.1)) (ends.beginning m e r.0 r.1);
      read_fault = λ h. not_failed _ _ _ ends.no_read (unfailed _ _ _ (f.read_fault h));
      write_fault = λ h. ends.write_fault (unfailed _ _ _ (f.write_fault h));
    }

pub returns-in_default-clause-holds : goal.returns-in_default-clause-holds
returns-in_default-clause-holds g c = λ m e fresh none more.
    let held = g.W.Write.contents c.args.writer.now.inner in
    record {
      read_all = tt;
      written = tt;
      decided = λ k. absurd (other _ fault.Read k refl);
      endless = λ k. absurd (other _ fault.Endless k refl);
      until_refused = λ k. (
        [],
        [],
        m [],
        none_within _,
        Consumes-nil _,
        subst (λ t. Appends held held t) (sym none) (Appends-nil _),
        refl,
      );
      beginning = ([], Consumes-nil _, prefix_none _ (e []));
      read_fault = not_failed _ fault.Read _ (λ k. other _ _ k refl);
      write_fault = not_failed _ fault.Write _ (λ k. other _ _ k refl);
    }

pub returns-in-Ok-filter_all-clause-refused : goal.returns-in-Ok-filter_all-clause-refused
returns-in-Ok-filter_all-clause-refused g c = λ m e fresh none more.
    let r = c.in-Ok-filter_all.ensures.fed m e fresh none more in
    c.end.ensures.refused m e r.0 r.1

pub returns-clause-holds : goal.returns-clause-holds
returns-clause-holds g c = λ m e fresh none more.
    let f = c.in-Err.ensures in record {
      read_all = tt;
      written = tt;
      decided = f.decided m e fresh none more;
      endless = f.endless m e fresh none more;
      until_refused = search rules;
      beginning = search rules;
      read_fault = f.read_fault;
      write_fault = f.write_fault;
    }

pub returns-clause-refused : goal.returns-clause-refused
returns-clause-refused g c = λ m e fresh none more. c.in-Err.ensures.refused m e fresh none more

pub returns-in-Ok-filter_all-clause-ended : goal.returns-in-Ok-filter_all-clause-ended
returns-in-Ok-filter_all-clause-ended g c = λ m e fresh none more.
    let r = c.in-Ok-filter_all.ensures.fed m e fresh none more in
    on_ok_more _ _ c.end.result (λ w. (r.0, w.0, r.2)) (c.end.ensures.given m e r.0 r.1)

pub returns-in_default-clause-ended : goal.returns-in_default-clause-ended
returns-in_default-clause-ended g c = λ m e fresh none more. tt

pub returns-clause-ended : goal.returns-clause-ended
returns-clause-ended g c = λ m e fresh none more. tt
