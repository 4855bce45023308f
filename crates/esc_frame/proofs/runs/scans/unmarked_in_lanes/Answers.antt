use Rattle.std.proofs.Common.{eqb, cond, refl, arith, ◌∙◌}
use Rattle.std.proofs.lemmas.Simd.{zip2_splat, length-chunk}
use lib.Lanes.{chunk}
use Rattle.esc_frame.specs.Scans.{is_unmarked}
use Rattle.esc_frame.proofs.ByteRuns.LanesPass.{lowest_lane}
use Rattle.esc_frame.proofs.runs.scans.unmarked_in_lanes.Goals as goal

pub returns : goal.returns
returns c =
    let text = c.args.text.now in
    let v = chunk c.args.at 16 text in
    c.lowest.ensures ∙ lowest_lane is_unmarked (λ b. cond (eqb b 0x3b) 255 0) _ text c.args.at 16
    c.requires (omega arith) c.type_inv.text refl
    (zip2_splat _ v 16 0x3b (length-chunk c.args.at 16 text c.requires))
