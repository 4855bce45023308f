use Rattle.std.proofs.Common.{◌∙◌, ◌++◌, ap, append-nil, arith, sym}
use Rattle.esc_sixel.proofs.Runs.RunsOfPixels.{four, put_more}
use Rattle.esc_sixel.proofs.pixels.put_four.Goals as goal

pub returns : goal.returns
returns g c =
    let xs = c.args.vec.now.items in
    let s0 = sym (append-nil xs) in
    let s1 = put_more xs _ _ _ _ s0 c.put.ensures.items in
    let s2 = put_more xs _ _ _ _ s1 c.put-2.ensures.items in
    let s3 = put_more xs _ _ _ _ s2 c.put-3.ensures.items in
    let s4 = put_more xs _ _ _ _ s3 c.put-4.ensures.items in
    record {
      items = s4 ∙ ap (λ t. xs ++ t) (four c.args.values (omega arith));
      len = omega arith;
      capacity = omega arith;
    }
