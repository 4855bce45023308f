use Rattle.std.proofs.Common.{ap, arith, sym, ◌∙◌}
use Rattle.string_commands.specs.Rows.{fits}
use Rattle.string_commands.proofs.Places.{fit_here, fit_later}
use Rattle.string_commands.proofs.lookup.first_fit.Goals as goal

pub returns-then-fits-clause-place : goal.returns-then-fits-clause-place
returns-then-fits-clause-place c =
    let is = c.fits.ensures
    ∙ ap (fits c.args.kind c.args.key c.args.params.now c.args.text.now _)
    c.as_bytes.ensures.value in
    sym (c.loop-at.invariant
    ∙ fit_here (λ s. s.now) c.args.kind c.args.key c.args.params.now c.args.text.now
    c.args.entries.now c.args.starts.now c.loop-at.at _ _ c.fits.result c.loop-at-test.true
    (omega (arith, c.loop-at-test.true, c.requires)) is c.if-fits.true)

pub loop-at-preserved : goal.loop-at-preserved
loop-at-preserved c =
    let is = c.fits.ensures
    ∙ ap (fits c.args.kind c.args.key c.args.params.now c.args.text.now _)
    c.as_bytes.ensures.value in
    c.loop-at.invariant
    ∙ fit_later (λ s. s.now) c.args.kind c.args.key c.args.params.now c.args.text.now
    c.args.entries.now c.args.starts.now c.loop-at.at _ _ c.fits.result c.loop-at-test.true
    (omega (arith, c.loop-at-test.true, c.requires)) is c.if-fits.false
