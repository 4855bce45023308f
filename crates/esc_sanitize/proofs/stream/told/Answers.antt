use Rattle.std.proofs.Common.{[], refl, subst, sym}
use Rattle.esc_parse.proofs.Lists.StepsOverLists.{on_ok_more}
use Rattle.esc_sanitize.proofs.Running.{run_closed, run_none}
use Rattle.esc_sanitize.specs.Stages.{HasListened, IsRun, options_of}
use Rattle.esc_sanitize.specs.Written.{going_of, text_of}
use Rattle.esc_sanitize.proofs.stream.told.Goals as goal

pub returns-clause-holds : goal.returns-clause-holds
returns-clause-holds g c =
    let V = g.P.Admit in
    let n = g.N.Known in
    let o = options_of c.args.staged in
    let is = subst (λ k. IsRun g.F.StreamFilter V g.B.Book n.encoding n.way n.text n.lost k
    (going_of V o)
    (text_of V o) []) (sym c.new-filter.ensures) (record {
      runs = c.requires.0;
      goes_on = λ x. refl;
      ends = λ x. refl;
      coding = c.requires.1;
      way = c.requires.2;
      passed = c.requires.3;
      losing = c.requires.4;
    }) in
    let f = c.pump-outcome.ensures.holds (going_of V o) (text_of V o) is
    (run_none g.F.StreamFilter V g.B.Book n.encoding n.way n.text (going_of V o) (text_of V o)
    n.lost _ []
    is)
    (run_closed g.F.StreamFilter V g.B.Book n.encoding n.way n.text (going_of V o) (text_of V o)
    n.lost _
    []
    is) in
    record {
      read_all = f.read_all;
      written = f.written;
      decided = f.decided;
      endless = f.endless;
      until_refused = f.until_refused;
      beginning = f.beginning;
      read_fault = f.read_fault;
      write_fault = f.write_fault;
    }

pub returns-clause-refused : goal.returns-clause-refused
returns-clause-refused g c =
    let V = g.P.Admit in
    let n = g.N.Known in
    let o = options_of c.args.staged in
    let is = subst (λ k. IsRun g.F.StreamFilter V g.B.Book n.encoding n.way n.text n.lost k
    (going_of V o)
    (text_of V o) []) (sym c.new-filter.ensures) (record {
      runs = c.requires.0;
      goes_on = λ x. refl;
      ends = λ x. refl;
      coding = c.requires.1;
      way = c.requires.2;
      passed = c.requires.3;
      losing = c.requires.4;
    }) in
    c.pump-outcome.ensures.refused (going_of V o) (text_of V o) is
    (run_none g.F.StreamFilter V g.B.Book n.encoding n.way n.text (going_of V o) (text_of V o)
    n.lost _ []
    is)
    (run_closed g.F.StreamFilter V g.B.Book n.encoding n.way n.text (going_of V o) (text_of V o)
    n.lost _
    []
    is)

pub returns-clause-heard : goal.returns-clause-heard
returns-clause-heard g c =
    let V = g.P.Admit in
    let n = g.N.Known in
    let o = options_of c.args.staged in
    let is = subst (λ k. IsRun g.F.StreamFilter V g.B.Book n.encoding n.way n.text n.lost k
    (going_of V o)
    (text_of V o) []) (sym c.new-filter.ensures) (record {
      runs = c.requires.0;
      goes_on = λ x. refl;
      ends = λ x. refl;
      coding = c.requires.1;
      way = c.requires.2;
      passed = c.requires.3;
      losing = c.requires.4;
    }) in
    on_ok_more _ _ c.pump-outcome.result
    (λ h. (
      h.0,
      subst (λ a. HasListened V g.B.Book n.encoding n.way n.text n.lost a h.0)
          (sym c.into_auditor.ensures) h.1,
      h.2,
    ))
    (c.pump-outcome.ensures.ended (going_of V o) (text_of V o) is
    (run_none g.F.StreamFilter V g.B.Book n.encoding n.way n.text (going_of V o) (text_of V o)
    n.lost _ []
    is)
    (run_closed g.F.StreamFilter V g.B.Book n.encoding n.way n.text (going_of V o) (text_of V o)
    n.lost _
    []
    is))
