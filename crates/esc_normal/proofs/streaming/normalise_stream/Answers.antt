use Rattle.std.proofs.Common.{[], append-nil, ap, sym, refl}
use Rattle.std.proofs.lemmas.Result.{on_err_weaker}
use Rattle.esc_actions.proofs.Meaning.MeaningsJoin.{meaning_nil}
use Rattle.esc_actions.specs.Texts.{list_text}
use Rattle.esc_normal.proofs.Normalising.{prefix_of_had, written_all}
use Rattle.esc_normal.specs.Normalising.{normal_form}
use Rattle.esc_normal.proofs.streaming.normalise_stream.Goals as goal

pub returns-clause-holds : goal.returns-clause-holds
returns-clause-holds g c =
    let limit = c.args.limit in
    let m = normal_form g.row.A.Denot limit in
    let f = c.pump.ensures.holds m m (limit, c.new-normaliser.ensures.fed, refl, refl)
    (ap list_text (meaning_nil limit)) (λ s. ([], sym (append-nil (m s)))) in
    record {
      read_all = f.read_all;
      written = f.written;
      decided = f.decided;
      endless = f.endless;
      until_refused = f.until_refused;
      beginning = f.beginning;
      read_fault = f.read_fault;
      write_fault = f.write_fault;
    }

pub returns-clause-written : goal.returns-clause-written
returns-clause-written g c =
    let f = returns-clause-holds g c in
    written_all g.row.A.Denot c.args.limit _ _ _ _ c.pump.result f.read_all f.written

pub returns-clause-beginning : goal.returns-clause-beginning
returns-clause-beginning g c =
    let f = returns-clause-holds g c in
    on_err_weaker c.pump.result
    (λ h. prefix_of_had g.row.A.Denot c.args.limit _ _ _ _ h.0 h.1 h.2) f.beginning

pub returns-clause-refused : goal.returns-clause-refused
returns-clause-refused g c =
    let limit = c.args.limit in
    let m = normal_form g.row.A.Denot limit in
    c.pump.ensures.refused m m (limit, c.new-normaliser.ensures.fed, refl, refl)
    (ap list_text (meaning_nil limit)) (λ s. ([], sym (append-nil (m s))))
