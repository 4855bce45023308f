use Rattle.std.proofs.Common.{◌-◌, length, arith, sym, ◌∙◌}
use Rattle.esc_html.specs.Characters.{is_bare}
use Rattle.esc_html.proofs.BareRuns.{joined, overlapped, part_fails}
use Rattle.esc_html.proofs.bare.are_many_bare.Goals as goal

pub returns-then-not-are_lanes_bare : goal.returns-then-not-are_lanes_bare
returns-then-not-are_lanes_bare c =
    sym (part_fails is_bare c.args.bytes.now c.loop-at.at 16
    (sym c.are_lanes_bare.ensures ∙ c.if-not-are_lanes_bare.true))

pub loop-at-preserved : goal.loop-at-preserved
loop-at-preserved c = (
  omega (arith, c.loop-at-test.true, c.loop-at.invariant.0),
  joined is_bare c.args.bytes.now c.loop-at.at 16 c.loop-at.invariant.1
      (sym c.are_lanes_bare.ensures ∙ c.if-not-are_lanes_bare.false),
)

pub returns : goal.returns
returns c =
    let bytes = c.args.bytes.now in
    c.are_lanes_bare-2.ensures
    ∙ overlapped is_bare bytes (length bytes - 16) 16 (omega (arith, c.requires)) c.loop-at.at
    (omega (arith, c.loop-at-test.false)) c.loop-at.invariant.1
