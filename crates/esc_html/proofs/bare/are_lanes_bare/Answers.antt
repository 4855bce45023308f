use Rattle.std.proofs.Common.{◌==◌, ap, refl, arith, ◌∙◌}
use Rattle.std.proofs.lemmas.Simd.{zip2_of_maps, zip2_splat, length-chunk}
use lib.Lanes.{chunk}
use Rattle.esc_html.specs.Characters.{is_bare}
use Rattle.esc_html.proofs.BareRuns.{lanes_pass}
use Rattle.esc_html.proofs.bare.are_lanes_bare.Goals as goal

pub returns : goal.returns
returns c =
    let bytes = c.args.bytes.now in
    let v = chunk c.args.at 16 bytes in
    let long = length-chunk c.args.at 16 bytes c.requires in
    ap (λ k. k == 16) c.lowest.ensures
    ∙ lanes_pass is_bare _ _ bytes c.args.at 16 c.requires (omega arith) c.type_inv.bytes refl
    (zip2_of_maps _ _ _ v
    (zip2_of_maps _ _ _ v
    (zip2_of_maps _ _ _ v (zip2_splat _ v 16 0x7f long) (zip2_splat _ v 16 0x26 long))
    (zip2_splat _ v 16 0x3c long)) (zip2_splat _ v 16 0x3e long))
