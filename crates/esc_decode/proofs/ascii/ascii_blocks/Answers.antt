use Rattle.std.proofs.Common.{◌≡◌, ◌+◌, ◌-◌, arith, drop, take, subst, refl}
use Rattle.std.specs.Str.{IsAscii}
use Rattle.esc_decode.proofs.Blocks.{ascii_joins}
use Rattle.esc_decode.proofs.ascii.ascii_blocks.Goals as goal

pub loop-at-preserved : goal.loop-at-preserved
loop-at-preserved c =
    let bs = c.args.bytes.now in
    let at = c.loop-at.at in
    let long : at + 256 - at ≡ 256 = omega arith in (
      omega (arith, c.loop-at-test.true, c.loop-at.invariant.0),
      ascii_joins bs at 256 c.loop-at.invariant.1
          (subst (λ n. IsAscii (take n (drop at bs))) long
          (c.if-not-is_ascii_block.ensures refl)),
    )
