use Rattle.std.proofs.Common.{ℕ, List, true, false, ap, sym}
use Rattle.esc_html.specs.Lines.{lined_page}
use Rattle.eschtml.specs.Lined.{ended_in, going_in}
use Rattle.eschtml.specs.Written.{ended_by, going_by, seen_by}
use Rattle.eschtml.proofs.Lining.{lines_add}
use Rattle.eschtml.proofs.Same.{same_texts}
use Rattle.eschtml.proofs.stream.write_lined.Goals as goal

pub returns-in-None-clause-holds : goal.returns-in-None-clause-holds
returns-in-None-clause-holds g c = λ m e fresh none only.
    let a = g.row.A.Denot in
    let o = c.args.options.now in
    let whole : List ℕ → List ℕ = λ s. e (seen_by a o c.args.moves true s) in
    let going : List ℕ → List ℕ = λ s. m (seen_by a o c.args.moves false s) in
    let f = same_texts whole going (λ s. ended_by o.first (whole s))
    (λ s. going_by o.first (going s)) (λ s. sym (ap (λ r. ended_by r (whole s)) c.in-None.is))
    (λ s. sym (ap (λ r. going_by r (going s)) c.in-None.is)) _ _ _
    (c.write_seen.ensures.holds m e fresh none only) in
    record {
      read_all = f.read_all;
      written = f.written;
      decided = f.decided;
      endless = f.endless;
      until_refused = f.until_refused;
      beginning = f.beginning;
      read_fault = f.read_fault;
      write_fault = f.write_fault;
    }

pub returns-in-Some-clause-holds : goal.returns-in-Some-clause-holds
returns-in-Some-clause-holds g c = λ m e fresh none only.
    let a = g.row.A.Denot in
    let o = c.args.options.now in
    let n = c.in-Some.first in
    let whole : List ℕ → List ℕ = λ s. e (seen_by a o c.args.moves true s) in
    let going : List ℕ → List ℕ = λ s. m (seen_by a o c.args.moves false s) in
    let new = c.new-lined.ensures.begins m e fresh none only in
    let f = same_texts (ended_in n whole) (going_in n going) (λ s. ended_by o.first (whole s))
    (λ s. going_by o.first (going s)) (λ s. sym (ap (λ r. ended_by r (whole s)) c.in-Some.is))
    (λ s. sym (ap (λ r. going_by r (going s)) c.in-Some.is)) _ _ _
    (c.write_seen-in-Some.ensures.holds (going_in n m) (ended_in n e) new
    (ap (lined_page n false) none) (lines_add n m e only)) in
    record {
      read_all = f.read_all;
      written = f.written;
      decided = f.decided;
      endless = f.endless;
      until_refused = f.until_refused;
      beginning = f.beginning;
      read_fault = f.read_fault;
      write_fault = f.write_fault;
    }

pub returns-in-Some-clause-refused : goal.returns-in-Some-clause-refused
returns-in-Some-clause-refused g c = λ m e fresh none only.
    let n = c.in-Some.first in
    c.write_seen-in-Some.ensures.refused (going_in n m) (ended_in n e)
    (c.new-lined.ensures.begins m e fresh none only) (ap (lined_page n false) none)
    (lines_add n m e only)
