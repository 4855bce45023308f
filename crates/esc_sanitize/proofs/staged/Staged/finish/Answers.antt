use Rattle.esc_sanitize.proofs.Following.{on_err_any}
use Rattle.esc_sanitize.proofs.Running.{finishes}
use Rattle.esc_sanitize.specs.Written.{passing_of}
use Rattle.esc_sanitize.proofs.staged.Staged.finish.Goals as goal

pub returns-clause-ended : goal.returns-clause-ended
returns-clause-ended g c = λ s h.
    let V = g.P.Admit in
    let o = c.args.self.now.hearing.options in
    let u = passing_of V o s in
    let k = c.in_ok-finish.ensures.ended s h.0 in
    let m = c.note.ensures in
    finishes g.F.StreamFilter V g.B.Book o s c.finish.new.self c.note.new.self c.close.new.self
    c.output.result.now c.lost.result c.output.ensures c.lost.ensures m.same.0
    c.finish.ensures.options m.same.1 k.0 k.1 (c.in_ok-close.ensures.ended o.window u h.1)
    (c.in_ok-close.ensures.lost o.window u h.1) (m.heard s) m.noted

pub returns-in_err-finish-clause-refused : goal.returns-in_err-finish-clause-refused
returns-in_err-finish-clause-refused g c = λ s h.
    on_err_any _ c.from_residual.result (c.in_err-finish.ensures.refused s h.0)

pub returns-in_err-close-clause-refused : goal.returns-in_err-close-clause-refused
returns-in_err-close-clause-refused g c = λ s h.
    let o = c.args.self.now.hearing.options in
    on_err_any _ c.from_residual-in_err-close.result
    (c.in_err-close.ensures.refused o.window (passing_of g.P.Admit o s) h.1)
