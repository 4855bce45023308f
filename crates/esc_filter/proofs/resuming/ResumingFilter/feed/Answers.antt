use Rattle.std.proofs.Common.{refl}
use Rattle.esc_filter.specs.Lines.{policy_of_lines}
use Rattle.esc_filter.specs.Openings.{resumed_stream}
use Rattle.esc_filter.proofs.ByLine.LinesAreStreams.{fed_same}
use Rattle.esc_filter.proofs.Renditions.RenditionsAreResumed.{adds_resumed, marks_same}
use Rattle.esc_filter.proofs.resuming.ResumingFilter.feed.Goals as goal

pub returns-in-Ok-clause-given : goal.returns-in-Ok-clause-given
returns-in-Ok-clause-given g c = λ k u limit s w.
    let admits = g.P.Admit.admits (policy_of_lines c.args.self.now.lines) in
    let lines = record c.args.self.now.lines { text = c.clear.new.self } in
    let old = record c.args.self.now { lines = lines } in
    let d = resumed_stream {A = g.row.A.Denot} k u limit admits s in
    adds_resumed k u limit admits s c.args.bytes.now old c.feed_lines.new.self
    c.clear.ensures.bytes
    (c.in-Ok.ensures.given k u limit d
    (fed_same u limit admits d c.args.self.now.lines lines refl refl refl w.fed)
    (marks_same k u limit admits d c.args.self.now old refl refl refl w.marks))

pub returns-in-Err-clause-refused : goal.returns-in-Err-clause-refused
returns-in-Err-clause-refused g c = λ k u limit s w.
    let admits = g.P.Admit.admits (policy_of_lines c.args.self.now.lines) in
    let lines = record c.args.self.now.lines { text = c.clear.new.self } in
    let old = record c.args.self.now { lines = lines } in
    let d = resumed_stream {A = g.row.A.Denot} k u limit admits s in (
      refl,
      refl,
      c.clear-in-Err.ensures.bytes,
      c.in-Err.ensures.refused k u limit d
          (fed_same u limit admits d c.args.self.now.lines lines refl refl refl w.fed)
          (marks_same k u limit admits d c.args.self.now old refl refl refl w.marks),
    )
