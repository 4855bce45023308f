use Rattle.std.proofs.Common.{◌∙◌, ◌++◌, ◌∷◌, [], ap, append_assoc, arith, get_or}
use Rattle.esc_sixel.specs.declared.sixel_data.SixelData.TheVariants.{Data}
use Rattle.esc_sixel.proofs.Runs.RunsOfPixels.{eight}
use Rattle.esc_sixel.proofs.pixels.put_block.Goals as goal

pub returns : goal.returns
returns g c =
    let xs = c.args.vec.now.items in
    let v = c.args.values in
    let low = Data (get_or v 0 0) ∷ Data (get_or v 1 0) ∷ Data (get_or v 2 0) ∷ Data (get_or v 3 0)
    ∷ [] in
    let high = Data (get_or v 4 0) ∷ Data (get_or v 5 0) ∷ Data (get_or v 6 0) ∷ Data (get_or v 7 0)
    ∷ [] in
    record {
      items = c.put_four-2.ensures.items ∙ ap (λ t. t ++ high) c.put_four.ensures.items
          ∙ append_assoc xs low high
          ∙ ap (λ t. xs ++ t) (eight v (omega arith));
      len = omega arith;
      capacity = omega arith;
    }
