use Rattle.std.proofs.Common.{◌-◌, ◌++◌, List, ℕ, length, take, drop, sym, ap, ◌∙◌, arith}
use Rattle.std.proofs.lemmas.Bool.{and_parts}
use Rattle.esc_frame.proofs.ByteRuns.CsiRuns.{run_joins}
use Rattle.esc_frame.proofs.ByteRuns.ManyBytes.{tail_length}
use Rattle.esc_frame.specs.Machine.Prefixes.{prefix_of}
use Rattle.esc_decode.proofs.Masks.{begun_append, masked_append}
use Rattle.esc_decode.specs.Masks.{begun_after, masked_after}
use Rattle.esc_decode.proofs.runs.look.Goals as goal

-- the bytes from a place on
abbrev tail : List ℕ → ℕ → List ℕ
tail bytes at = take (length bytes - at) (drop at bytes)

pub loop-at-preserved : goal.loop-at-preserved
loop-at-preserved c =
    let bs = c.args.bytes.now in
    let at = c.loop-at.at in
    let n = c.look_some-next.result.1 in
    let inv = c.loop-at.invariant in
    let l = tail_length bs at in
    let f = prefix_of c.args.begun in
    let x = take at bs in
    let y = take n (tail bs at) in
    let whole = run_joins bs at n in
    record {
      within = omega (arith, c.look_some-next.ensures.count, l, inv.within);
      last =
          c.look_some-next.ensures.begun ∙ ap (λ p. begun_after p y) inv.last
          ∙ sym (begun_append f x y) ∙ ap (begun_after f) whole;
      stays = λ h.
          let q = and_parts c.loop-at.stays c.look_some-next.result.2 h in
          ap (masked_after f) (sym whole) ∙ masked_append f x y
          ∙ ap (λ t. t ++ masked_after (begun_after f x) y) (inv.stays q.0)
          ∙ ap (λ p. x ++ masked_after p y) (sym inv.last)
          ∙ ap (λ t. x ++ t) (c.look_some-next.ensures.stays q.1) ∙ whole;
    }
