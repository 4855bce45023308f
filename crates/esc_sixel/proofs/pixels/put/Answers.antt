use Rattle.std.proofs.Common.{◌∙◌, arith}
use Rattle.esc_sixel.proofs.Runs.RunsOfPixels.{last_set}
use Rattle.esc_sixel.specs.declared.sixel_data.SixelData.TheVariants.{Data}
use Rattle.esc_sixel.proofs.pixels.put.Goals as goal

pub returns-in-Data : goal.returns-in-Data
returns-in-Data g c = record {
  items = last_set c.args.vec.now.items _ (Data 0) (Data c.args.value) c.len-len.result
      c.push_reserved.ensures.items (c.len-len.ensures ∙ c.args.vec.now.ok.0);
  len = omega arith;
  capacity = omega arith;
}
