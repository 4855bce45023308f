use Rattle.std.proofs.Common.{◌-◌, ◌++◌, length, take, drop, sym, ap, ◌∙◌, arith, append_assoc}
use Rattle.esc_frame.proofs.ByteRuns.CsiRuns.{run_joins}
use Rattle.esc_frame.proofs.ByteRuns.ManyBytes.{tail_length}
use Rattle.esc_decode.proofs.Reading.{read_append}
use Rattle.esc_decode.specs.Pages.{read_in}
use Rattle.esc_decode.proofs.eight_bit.push_characters.Goals as goal

pub loop-at-preserved : goal.loop-at-preserved
loop-at-preserved g c =
    let bs = c.args.bytes.now in
    let at = c.loop-at.at in
    let n = c.in_ok-n.n in
    let inv = c.loop-at.invariant in
    let l = tail_length bs at in
    let t = c.args.table.now in
    let x = take at bs in
    let y = take n (take (length bs - at) (drop at bs)) in
    let t0 = c.args.text.now.items in
    record {
      within = omega (arith, c.in_ok-n.ensures.count, l, inv.within);
      read =
          c.in_ok-n.ensures.ok ∙ ap (λ z. z ++ read_in t y) inv.read
          ∙ append_assoc t0 (read_in t x) (read_in t y)
          ∙ ap (λ z. t0 ++ z) (sym (read_append t x y))
          ∙ ap (λ z. t0 ++ read_in t z) (run_joins bs at n);
    }
