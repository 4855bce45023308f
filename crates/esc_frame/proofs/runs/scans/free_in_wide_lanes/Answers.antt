use Rattle.std.proofs.Common.{refl, arith, ◌∙◌}
use Rattle.std.proofs.lemmas.Simd.{zip2_splat, length-chunk, zip2_of_maps}
use Rattle.std.proofs.lemmas.List.Sums.{prefix_len-le-length}
use lib.Lanes.{chunk}
use Rattle.esc_frame.specs.Scans.{is_free_byte}
use Rattle.esc_frame.proofs.ByteRuns.LanesPass.{lowest_lane}
use Rattle.esc_frame.proofs.runs.scans.free_in_wide_lanes.Goals as goal

pub returns : goal.returns
returns c =
    let v = chunk c.args.at 32 c.args.bytes.now in
    let long = length-chunk c.args.at 32 c.args.bytes.now c.requires in
    let e = c.lowest.ensures ∙ lowest_lane is_free_byte _ _ c.args.bytes.now c.args.at 32 c.requires
    (omega arith) c.type_inv.bytes refl
    (zip2_of_maps _ _ _ v (zip2_splat _ v 32 0x20 long) (zip2_splat _ v 32 0xc2 long)) in
    let few = prefix_len-le-length is_free_byte v in
    record { run = e; few = omega (arith, e, few, long) }
