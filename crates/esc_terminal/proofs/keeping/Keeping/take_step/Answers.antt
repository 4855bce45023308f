use Rattle.std.proofs.Common.{◌≡◌, replicate, ap, ◌∙◌, rules}
use Rattle.esc_terminal.proofs.Stepping.{stepped_all, stepped_more}
use Rattle.esc_terminal.proofs.keeping.Keeping.take_step.Goals as goal

pub loop-preserved : goal.loop-preserved
loop-preserved g c =
    stepped_more g.R.Rows.takes c.args.self.now c.loop.self c.hand_out.new.self
    c.parts-part.result.0 c.loop.counter c.join_for.new.self c.take.new.self c.loop.invariant
    c.join_for.ensures c.in_ok-hand_out.ensures.ok c.take.ensures

pub returns-clause-ok : goal.returns-clause-ok
returns-clause-ok g c =
    let all : c.loop.counter ≡ c.parts-part.result.1 = search rules in
    let part = c.parts-part.result.0 in
    stepped_all g.R.Rows.takes c.args.self.now c.loop.self c.args.step part c.loop.counter
    (ap (λ n. replicate n part) all ∙ c.parts-part.ensures) c.loop.invariant
