use Rattle.std.proofs.Common.{◌+◌, length, length-drop, take, refl, ap, subst, arith}
use Rattle.esc_account.specs.AtOnce.{IsSequence}
use Rattle.esc_account.proofs.AtOnce.SeenIsFirst.{sequence_seen}
use Rattle.esc_account.proofs.at_once.sequence_at_once.Goals as goal

pub returns-else-end-eq0 : goal.returns-else-end-eq0
returns-else-end-eq0 c =
    let s = c.args.bytes.now in
    let n = c.sequence_end-end.result.0 in
    let f = c.sequence_end-end.result.1 in
    sequence_seen s (n + 2) n f _ c.requires.some c.requires.first c.requires.second refl
    (omega (
      arith,
      c.sequence_end-end.ensures.few,
      ap length c.after.ensures,
      length-drop 2 s,
      c.requires.some,
    ))
    (subst (λ v. IsSequence (take n v) f) c.after.ensures
    (c.sequence_end-end.ensures.found (omega (arith, c.if-end-eq0.false)))) refl refl refl
