use Rattle.std.proofs.Common.{refl}
use Rattle.esc_filter.specs.Lines.{policy_of_lines}
use Rattle.esc_filter.proofs.ByLine.LinesAreStreams.{adds_all, fed_same}
use Rattle.esc_filter.proofs.line_filter.LineFilter.feed.Goals as goal

pub returns-in-Ok-clause-given : goal.returns-in-Ok-clause-given
returns-in-Ok-clause-given g c = λ u limit s w.
    let admits = g.P.Admit.admits (policy_of_lines c.args.self.now) in
    adds_all u limit admits s c.args.bytes.now
    (record c.args.self.now { text = c.clear.new.self }) c.feed_lines.new.self c.clear.ensures.bytes
    (c.in-Ok.ensures.given u limit s
    (fed_same u limit admits s c.args.self.now (record c.args.self.now { text = c.clear.new.self })
    refl refl refl w))

pub returns-in-Err-clause-refused : goal.returns-in-Err-clause-refused
returns-in-Err-clause-refused g c = λ u limit s w.
    let admits = g.P.Admit.admits (policy_of_lines c.args.self.now) in (
      refl,
      refl,
      c.clear-in-Err.ensures.bytes,
      c.in-Err.ensures.refused u limit s
          (fed_same u limit admits s c.args.self.now
          (record c.args.self.now { text = c.clear.new.self }) refl refl refl w),
    )
