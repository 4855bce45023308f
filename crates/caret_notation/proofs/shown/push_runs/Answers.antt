use Rattle.std.proofs.Common.{◌-◌, ◌++◌, List, ℕ, length, take, drop, sym, ap, ◌∙◌, arith, append_assoc}
use Rattle.esc_frame.proofs.ByteRuns.CsiRuns.{run_joins}
use Rattle.esc_frame.proofs.ByteRuns.ManyBytes.{tail_length}
use Rattle.esc_frame.specs.Machine.Prefixes.{prefix_of}
use Rattle.caret_notation.proofs.VisibleText.ShownInTurn.{begun_append, settled_append}
use Rattle.caret_notation.specs.Visible.{begun_after, settled_text}
use Rattle.caret_notation.proofs.shown.push_runs.Goals as goal

-- the bytes from a place on
abbrev tail : List ℕ → ℕ → List ℕ
tail bytes at = take (length bytes - at) (drop at bytes)

pub loop-at-preserved : goal.loop-at-preserved
loop-at-preserved g c =
    let bs = c.args.bytes.now in
    let at = c.loop-at.at in
    let n = c.in_ok-next.n in
    let inv = c.loop-at.invariant in
    let l = tail_length bs at in
    let f = prefix_of c.args.begun in
    let x = take at bs in
    let y = take n (tail bs at) in
    let t0 = c.args.text.now.items in
    let k = c.in_ok-next.ensures.ok in
    record {
      within = omega (arith, c.in_ok-next.ensures.count, l, inv.within);
      shown =
          k.0 ∙ ap (λ p. c.loop-at.text.items ++ settled_text p y) inv.last
          ∙ ap (λ t. t ++ settled_text (begun_after f x) y) inv.shown
          ∙ append_assoc t0 (settled_text f x) (settled_text (begun_after f x) y)
          ∙ ap (λ t. t0 ++ t) (sym (settled_append f x y))
          ∙ ap (λ z. t0 ++ settled_text f z) (run_joins bs at n);
      last =
          k.1 ∙ ap (λ p. begun_after p y) inv.last ∙ sym (begun_append f x y)
          ∙ ap (begun_after f) (run_joins bs at n);
    }
