use Rattle.std.proofs.Common.{◌∙◌, ap, map, refl, take}
use Rattle.std.proofs.lemmas.Simd.{length-chunk, zip2_splat}
use Rattle.esc_sixel.specs.declared.sixel_data.SixelData.TheVariants.{Data}
use Rattle.esc_sixel.proofs.Runs.RunsOfPixels.{block_drawn}
use Rattle.esc_sixel.proofs.pixels.four_values_of.Goals as goal

pub returns : goal.returns
returns c =
    let v = take 4 c.args.block.now in
    ap (map Data) (zip2_splat _ v 4 0x3f (length-chunk 0 4 c.args.block.now c.requires.room))
    ∙ block_drawn _ refl v c.requires.pixels
