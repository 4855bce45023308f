use Rattle.std.proofs.Common.{◌+◌, length, length-drop, take, drop, refl, ap, subst, arith}
use Rattle.esc_account.specs.AtOnce.{IsCommand}
use Rattle.esc_account.proofs.AtOnce.SeenIsFirst.{command_seen}
use Rattle.esc_account.proofs.at_once.command_at_once.Goals as goal

pub returns-else-end-eq0 : goal.returns-else-end-eq0
returns-else-end-eq0 c =
    let s = c.args.bytes.now in
    let n = c.command_end-end.result in
    command_seen s (n + 2) n _ c.requires.some c.requires.first c.requires.second refl
    (omega (
      arith,
      c.command_end-end.ensures.few,
      ap length c.after.ensures,
      length-drop 2 s,
      c.requires.some,
    ))
    (subst (λ v. IsCommand (take n v) (drop n v)) c.after.ensures
    (c.command_end-end.ensures.found (omega (arith, c.if-end-eq0.false)))) refl refl refl
