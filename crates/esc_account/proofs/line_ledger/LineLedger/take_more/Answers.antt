use Rattle.std.proofs.Common.{◌++◌}
use Rattle.esc_account.proofs.Lines.LedgerHearsMore.{leaves_more, opens_more}
use Rattle.esc_account.proofs.line_ledger.LineLedger.take_more.Goals as goal

pub returns-then-was_open-clause-keeps : goal.returns-then-was_open-clause-keeps
returns-then-was_open-clause-keeps g c = λ s t h.
    let k = c.args.self.now in
    let q = c.keep.new.self in
    let b = c.args.bytes.now in
    let u = c.args.text.now in
    let m = c.in-Ok.ensures.kept in
    let same = c.keep.ensures.same in (
      leaves_more g.J.Judge g.B.Book k q s t b u m.0 m.1 same.0 same.1 same.2 h,
      opens_more g.J.Judge g.B.Book k q s t b u m.0 m.1 h.1 m.2,
    )

pub returns-else-was_open-clause-keeps : goal.returns-else-was_open-clause-keeps
returns-else-was_open-clause-keeps g c = λ s t h.
    let b = c.args.bytes.now in
    let u = c.args.text.now in
    let m = c.in-Ok.ensures.kept in
    let same = c.keep.ensures.same in
    c.enter_kept.ensures.keeps (s ++ b) (t ++ u)
    (leaves_more g.J.Judge g.B.Book c.args.self.now c.keep.new.self s t b u m.0 m.1 same.0 same.1
    same.2 h)
