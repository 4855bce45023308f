use Rattle.std.proofs.Common.{◌≡◌, ◌++◌, ◌∷◌, ◌+◌, [], take, get_or, ap, sym, ◌∙◌, arith}
use Rattle.std.proofs.lemmas.List.{append_assoc, take_more}
use Rattle.esc_decode.specs.Units.{unit_text, after}
use Rattle.esc_decode.proofs.Units.{added_append, after_append}
use Rattle.esc_decode.proofs.utf16.Utf16.push.Goals as goal

pub loop-byte-preserved : goal.loop-byte-preserved
loop-byte-preserved g c =
    let bs = c.args.bytes.now in
    let i = c.loop-byte.byte-index in
    let u = c.args.self.now in
    let t = c.args.text.now.items in
    let x = take i bs in
    let y = get_or bs i 0 ∷ [] in
    let more : take (i + 1) bs ≡ x ++ y = take_more bs i 0 (omega (arith, c.loop-byte-test.true)) in
    let inv = c.loop-byte.invariant in (
      c.in_ok-take.ensures.state
          ∙ ap (λ v. after v y) inv.0 ∙ after_append u x y ∙ ap (λ s. after u s) (sym more),
      c.in_ok-take.ensures.text
          ∙ ap (λ v. c.loop-byte.text.items ++ unit_text v y) inv.0
          ∙ ap (λ z. z ++ unit_text (after u x) y) inv.1
          ∙ append_assoc t (unit_text u x) (unit_text (after u x) y)
          ∙ ap (λ z. t ++ z) (sym (added_append u x y)) ∙ ap (λ s. t ++ unit_text u s) (sym more),
    )
