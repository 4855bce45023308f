use Rattle.std.proofs.Common.{◌≡◌, ◌++◌, subst}
use Rattle.std.proofs.lemmas.Result.{on_ok_weaker}
use Rattle.esc_sanitize.proofs.Following.{on_err_any}
use Rattle.esc_sanitize.proofs.Running.{runs_more}
use Rattle.esc_sanitize.specs.Hearings.{heard_added}
use Rattle.esc_sanitize.specs.Rows.{HasLeft, left_added}
use Rattle.esc_sanitize.specs.Written.{final_text, passing_of}
use Rattle.esc_sanitize.proofs.staged.Staged.feed.Goals as goal

pub returns-clause-given : goal.returns-clause-given
returns-clause-given g c = λ s h.
    let o = c.args.self.now.hearing.options in
    let u = passing_of g.P.Admit o s in
    let k = c.in_ok-feed.ensures.given s h.0 in
    let n = c.take.new.self in
    on_ok_weaker c.take.result
    (λ z.
    runs_more g.F.StreamFilter g.P.Admit g.B.Book o s c.feed.new.self n c.args.bytes.now
    (heard_added g.F.StreamFilter c.feed.new.self) c.feed.ensures.options k.0 k.1
    (subst (λ t. HasLeft o.window (u ++ t) n) c.output.ensures z.0)
    (subst (λ t. final_text g.row.A.Denot o.window (u ++ t)
    ≡ final_text g.row.A.Denot o.window u ++ left_added n t) c.output.ensures z.1))
    (c.take.ensures.given o.window u h.1)

pub returns-clause-refused : goal.returns-clause-refused
returns-clause-refused g c = λ s h.
    let o = c.args.self.now.hearing.options in
    c.take.ensures.refused o.window (passing_of g.P.Admit o s) h.1

pub returns-in_err-feed-clause-refused : goal.returns-in_err-feed-clause-refused
returns-in_err-feed-clause-refused g c = λ s h.
    on_err_any _ c.from_residual.result (c.in_err-feed.ensures.refused s h.0)
