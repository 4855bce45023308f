use Rattle.std.proofs.Common.{arith, ◌≡◌, ◌<◌, ◌^◌, ℕ, ℤ, List, [], ◌∷◌, pos, negsuc, refl, to_z, of_z, w64}
use mir.Val.{hbits}
use Rattle.std.proofs.lemmas.Int.{to_z_pos}
use Rattle.std.proofs.lemmas.Bool.Decides.{nat_tests}
use Rattle.esc_sixel.specs.Meaning.{header_pan, pan_number}
use Rattle.esc_sixel.specs.Steps.{HasConsumed}
use Rattle.esc_sixel.proofs.builder.SixelBuilder.new.Goals as goal

pan_small : (n : ℕ) → pan_number n < 2 ^ hbits w64
pan_small n = grind (arith, nat_tests)

pan_back : (ps : List ℤ) → to_z w64 (of_z w64 (header_pan ps)) ≡ header_pan ps
pan_back [] = refl
pan_back (pos n ∷ ps) = to_z_pos w64 (pan_number n) (pan_small n)
pan_back (negsuc n ∷ ps) = refl

pub returns : goal.returns
unfolding HasConsumed
returns g c =
    let pan : to_z w64 (of_z w64 c.pan_of.result) ≡ header_pan c.args.params.now =
    rw c.pan_of.ensures (pan_back c.args.params.now) in
    rw (pan, c.is_transparent.ensures, c.grid_of.ensures, c.new.ensures) (refl, refl)
