use Rattle.std.proofs.Common.{◌-◌, ◌++◌, List, ℕ, length, take, drop, sym, ap, ◌∙◌, arith, append_assoc}
use Rattle.esc_frame.proofs.ByteRuns.CsiRuns.{run_joins}
use Rattle.esc_frame.proofs.ByteRuns.ManyBytes.{tail_length}
use Rattle.eschtml.proofs.Joined.{held_append, joined_append}
use Rattle.eschtml.specs.Joined.{held_after, joined_after}
use Rattle.eschtml.proofs.joining.push_joined.Goals as goal

-- the bytes from a place on
abbrev tail : List ℕ → ℕ → List ℕ
tail bytes at = take (length bytes - at) (drop at bytes)

pub loop-at-preserved : goal.loop-at-preserved
loop-at-preserved g c =
    let bs = c.args.bytes.now in
    let at = c.loop-at.at in
    let n = c.in_ok-next.n in
    let inv = c.loop-at.invariant in
    let l = tail_length bs at in
    let f = c.args.held in
    let x = take at bs in
    let y = take n (tail bs at) in
    let t0 = c.args.text.now.items in
    let k = c.in_ok-next.ensures.ok in
    record {
      within = omega (arith, c.in_ok-next.ensures.count, l, inv.within);
      joins =
          k.0 ∙ ap (λ p. c.loop-at.text.items ++ joined_after p y) inv.last
          ∙ ap (λ t. t ++ joined_after (held_after f x) y) inv.joins
          ∙ append_assoc t0 (joined_after f x) (joined_after (held_after f x) y)
          ∙ ap (λ t. t0 ++ t) (sym (joined_append f x y))
          ∙ ap (λ z. t0 ++ joined_after f z) (run_joins bs at n);
      last =
          k.1 ∙ ap (λ p. held_after p y) inv.last ∙ sym (held_append f x y)
          ∙ ap (held_after f) (run_joins bs at n);
    }
