use Rattle.std.proofs.Common.{◌≡◌, ◌++◌, refl, subst, sym}
use Rattle.esc_sanitize.proofs.Following.{on_err_any}
use Rattle.esc_sanitize.proofs.Texts.{all_ended, rows_ended}
use Rattle.esc_sanitize.specs.Overwritten.{lost_in}
use Rattle.esc_sanitize.specs.Rows.{HasLeft, left_added, left_lost}
use Rattle.esc_sanitize.specs.Written.{final_text, left_text}
use Rattle.esc_sanitize.proofs.left.Left.close.Goals as goal

pub returns-in-All-clause-ended : goal.returns-in-All-clause-ended
returns-in-All-clause-ended g c = λ r u h.
    let A = g.row.A.Denot in
    let t = c.args.text.now in
    subst (λ l. left_text A r (u ++ t) ≡ final_text A r u ++ left_added l t) (sym c.in-All.is)
    (all_ended A r u t (subst (HasLeft r u) c.in-All.is h))

pub returns-in_ok-last-in-Rows-clause-ended : goal.returns-in_ok-last-in-Rows-clause-ended
returns-in_ok-last-in-Rows-clause-ended g c = λ r u h.
    let (n, e, fed) = subst (HasLeft r u) c.in-Rows.is h in
    rows_ended g.row.A.Denot r u c.args.text.now n _ e
    (c.in_ok-last-in-Rows.ensures.ended n u fed)

pub returns-in_ok-last-in-Rows-clause-refused : goal.returns-in_ok-last-in-Rows-clause-refused
returns-in_ok-last-in-Rows-clause-refused g c = λ r u h. tt

pub returns-in_err-last-in-Rows-clause-refused : goal.returns-in_err-last-in-Rows-clause-refused
returns-in_err-last-in-Rows-clause-refused g c = λ r u h.
    let (n, e, fed) = subst (HasLeft r u) c.in-Rows.is h in
    on_err_any _ c.from_residual.result
    (c.in_err-last-in-Rows.ensures.refused n u fed)

pub returns-in-All-clause-lost : goal.returns-in-All-clause-lost
returns-in-All-clause-lost g c = λ r u h.
    let A = g.row.A.Denot in
    let x = u ++ c.args.text.now in
    subst (λ l. left_lost l ≡ lost_in A r x) (sym c.in-All.is)
    (subst (λ k. 0 ≡ lost_in A k x) (sym (subst (HasLeft r u) c.in-All.is h)) refl)

pub returns-in_ok-last-in-Rows-clause-lost : goal.returns-in_ok-last-in-Rows-clause-lost
returns-in_ok-last-in-Rows-clause-lost g c = λ r u h.
    let A = g.row.A.Denot in
    let x = u ++ c.args.text.now in
    let (n, e, fed) = subst (HasLeft r u) c.in-Rows.is h in
    subst (λ k. c.lost.result ≡ lost_in A k x) (sym e)
    (c.lost.ensures n x (c.in_ok-last-in-Rows.ensures.fed n u fed))
