use Rattle.std.proofs.Common.{◌-◌, leb, cond, refl, arith, ◌∙◌}
use Rattle.std.proofs.lemmas.Simd.{zip2_splat, length-chunk, zip2_of_maps, splat_is_map}
use lib.Lanes.{chunk}
use Rattle.esc_frame.proofs.ByteRuns.LanesPass.{lowest_to}
use Rattle.esc_frame.proofs.runs.scans.run_in_wide_lanes.Goals as goal

pub returns : goal.returns
returns c =
    let v = chunk c.args.at 32 c.args.bytes.now in
    let long = length-chunk c.args.at 32 c.args.bytes.now c.requires.room in
    c.lowest.ensures ∙ lowest_to _ c.args.last _ c.args.bytes.now c.args.at 32 c.requires.last
    c.requires.room (omega arith) c.type_inv.bytes
    (zip2_of_maps (λ a b. cond (leb a b) 255 0) _ _ v (splat_is_map v 32 (c.args.last - 0x1f) long)
    (zip2_splat _ v 32 0x20 long)) refl refl
