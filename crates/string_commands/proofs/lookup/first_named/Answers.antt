use Rattle.std.proofs.Common.{ap, sym, ◌∙◌}
use Rattle.std.specs.Str.{bytes_eq}
use Rattle.string_commands.proofs.Places.{name_here, name_later}
use Rattle.string_commands.proofs.lookup.first_named.Goals as goal

pub returns-then-eq-clause-place : goal.returns-then-eq-clause-place
returns-then-eq-clause-place c =
    let is = c.eq.ensures ∙ ap (λ t. bytes_eq t c.args.name.now) c.as_bytes.ensures.value in
    sym (c.loop-at.invariant
    ∙ name_here (λ n. n.now) c.args.name.now c.args.names.now c.loop-at.at _ c.eq.result
    c.loop-at-test.true is c.if-eq.true)

pub loop-at-preserved : goal.loop-at-preserved
loop-at-preserved c =
    let is = c.eq.ensures ∙ ap (λ t. bytes_eq t c.args.name.now) c.as_bytes.ensures.value in
    c.loop-at.invariant
    ∙ name_later (λ n. n.now) c.args.name.now c.args.names.now c.loop-at.at _ c.eq.result
    c.loop-at-test.true is c.if-eq.false
