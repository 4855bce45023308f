use Rattle.std.proofs.Common.{◌≡◌, ◌+◌, ◌-◌, ◌≤◌, length, drop, take, arith, sym, ap, ◌∙◌}
use Rattle.unicode_visibility.proofs.Bytes.{hint_later, last_block, next_block}
use Rattle.unicode_visibility.specs.Signs.{has_hint}
use Rattle.unicode_visibility.proofs.signs.has_hint.Goals as goal

pub loop-at-preserved : goal.loop-at-preserved
loop-at-preserved c =
    let s = c.args.bytes.now in
    let at = c.loop-at.at in
    let long : 33 ≡ at + 33 - at = omega arith in
    λ h. c.loop-at.invariant (next_block s at
    (ap (λ n. has_hint (take n (drop at s))) long
    ∙ sym c.block_has_hint.ensures ∙ c.if-block_has_hint.false) h)

pub returns : goal.returns
returns c =
    let s = c.args.bytes.now in
    let last = length s - 33 in
    let behind : last ≤ c.loop-at.at = omega arith in
    λ h. c.loop-at.invariant (hint_later last c.loop-at.at s behind
    (last_block last s ∙ sym c.block_has_hint-2.ensures ∙ h))
