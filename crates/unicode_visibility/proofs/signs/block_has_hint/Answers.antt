use Rattle.std.proofs.Common.{◌≡◌, ◌||◌, Bool, true, false, drop, arith, refl, sym, ap, ◌∙◌}
use Rattle.unicode_visibility.specs.Signs.{has_hint}
use Rattle.unicode_visibility.proofs.Bytes.{one_byte}
use Rattle.unicode_visibility.proofs.signs.block_has_hint.Goals as goal

or_false : (t : Bool) → t ≡ (t || false)
or_false true = refl
or_false false = refl

pub returns : goal.returns
returns c =
    let s = c.args.block.now in
    let found = c.loop-place.found in
    let end : 32 ≡ c.loop-place.place = omega arith in
    or_false found
    ∙ ap (λ t. found || t) (sym (one_byte 32 s c.requires))
    ∙ ap (λ n. found || has_hint (drop n s)) end
    ∙ c.loop-place.invariant
