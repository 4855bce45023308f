use Rattle.std.proofs.Common.{rules, ◌≡◌, ◌++◌, OnOk, subst, sym}
use Rattle.std.proofs.lemmas.Result.{on_ok_weaker}
use Rattle.line_collapse.specs.Fed.{TakesIn}
use Rattle.esc_sanitize.proofs.Texts.{all_fed, rows_fed}
use Rattle.esc_sanitize.specs.Rows.{HasLeft, left_added}
use Rattle.esc_sanitize.specs.Written.{final_text}
use Rattle.esc_sanitize.proofs.left.Left.take.Goals as goal

pub returns-in-All-clause-given : goal.returns-in-All-clause-given
returns-in-All-clause-given g c = λ r u h.
    let A = g.row.A.Denot in
    let t = c.args.text.now in
    let e = subst (HasLeft r u) c.in-All.is h in
    subst (λ l. HasLeft r (u ++ t) l
    × (final_text A r (u ++ t) ≡ final_text A r u ++ left_added l t)) (sym c.in-All.is)
    (e, all_fed A r u t e)

pub returns-in-Rows-clause-given : goal.returns-in-Rows-clause-given
returns-in-Rows-clause-given g c = λ r u h.
    let A = g.row.A.Denot in
    let (n, e, fed) = subst (HasLeft r u) c.in-Rows.is h in
    let same : c.as_bytes.result.now ≡ c.args.text.now = search rules in
    on_ok_weaker c.feed.result
    (λ k. ((n, e, k.0), rows_fed A r u c.args.text.now n _ e k.1))
    (subst (λ t. OnOk c.feed.result (TakesIn n u t c.feed.new.self)) same
    (c.feed.ensures.given n u fed))

pub returns-in-Rows-clause-refused : goal.returns-in-Rows-clause-refused
returns-in-Rows-clause-refused g c = λ r u h.
    let (n, e, fed) = subst (HasLeft r u) c.in-Rows.is h in
    c.feed.ensures.refused n u fed
