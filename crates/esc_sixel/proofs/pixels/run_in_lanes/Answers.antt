use Rattle.std.proofs.Common.{◌≡◌, leb, cond, refl, arith, ◌∙◌, take, drop}
use Rattle.std.proofs.lemmas.List.Sums.{prefix_len-le-length}
use Rattle.std.proofs.lemmas.Simd.{zip2_splat, length-chunk, zip2_of_maps, splat_is_map}
use lib.Lanes.{chunk}
use Rattle.std.specs.List.{prefix_len}
use Rattle.esc_sixel.specs.Classes.{is_pixels}
use Rattle.esc_sixel.proofs.Runs.RunsOfPixels.{lowest_lane, passed}
use Rattle.esc_sixel.proofs.pixels.run_in_lanes.Goals as goal

pub returns : goal.returns
returns c =
    let v = chunk c.args.at 16 c.args.bytes.now in
    let long = length-chunk c.args.at 16 c.args.bytes.now c.requires in
    let e : c.lowest.result ≡ prefix_len is_pixels (take 16 (drop c.args.at c.args.bytes.now)) =
    c.lowest.ensures ∙ lowest_lane is_pixels _ _ c.args.bytes.now c.args.at 16 c.requires
    (omega arith) c.type_inv.bytes refl
    (zip2_of_maps (λ a b. cond (leb a b) 255 0) _ _ v (splat_is_map v 16 0x40 long)
    (zip2_splat _ v 16 0x3f long)) in
    let most = prefix_len-le-length is_pixels (take 16 (drop c.args.at c.args.bytes.now)) in
    record {
      run = passed (drop c.args.at c.args.bytes.now) 16 c.lowest.result e;
      few = omega (arith, e, most, long);
    }
