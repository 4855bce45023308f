use Rattle.std.proofs.Common.{rules, arith, ◌≡◌, [], ◌∷◌, ℕ, ◌+◌, ◌<◌, length, true, List, ◌++◌, take, get_or, sym, ap, ◌∙◌, refl, Bool, nat_lt, ◌&&◌}
use Rattle.std.proofs.Common.{eq-eqb, zero, suc}
use Rattle.std.specs.Fmt.{IsPlainFormatter}
use Rattle.std.specs.List.{flat_map}
use Rattle.std.proofs.lemmas.List.{take_more, flat_map_more}
use Rattle.std.proofs.lemmas.Str.{encode_ascii}
use Rattle.std.proofs.lemmas.Bool.{ne_eqb}
use borrow.Author.Tests.{ltb-true}
use Rattle.std.proofs.Output.{has_written_append, has_written_of_eq}
use Rattle.esc_osc_values.specs.Selections.{letter_text, letters}
use Rattle.esc_osc_values.proofs.selection.SelectionDisplay.fmt.Goals as goal
use Rattle.esc_osc_values.proofs.selection.SelectionDisplay.fmt.Goals.{then-self-bit-ne0+in_ok-write, else-self-bit-ne0}

-- one more letter
one_more : (b i : ℕ) → i < length letters
    → flat_map (letter_text b) (take i letters) ++ letter_text b (get_or letters i (0, 0))
    ≡ flat_map (letter_text b) (take (i + 1) letters)
one_more b i lt = flat_map_more (letter_text b) [] (take i letters) (get_or letters i (0, 0))
    ∙ ap (flat_map (letter_text b)) (sym (take_more letters i (0, 0) lt))

-- the letters are ASCII
abbrev all_ascii : List (ℕ × ℕ) → Bool
all_ascii [] = true
all_ascii (l ∷ ls) = nat_lt l.1 128 && all_ascii ls

ascii_at : (ls : List (ℕ × ℕ)) (i : ℕ) → all_ascii ls ≡ true → (get_or ls i (0, 0)).1 < 128
ascii_at [] i h = omega arith
ascii_at (l ∷ ls) zero h = search (rules, ltb-true)
ascii_at (l ∷ ls) (suc i) h = let t : all_ascii ls ≡ true = search (rules, ltb-true) in
    ascii_at ls i t

pub loop-bit-preserved : goal.loop-bit-preserved
loop-bit-preserved g c = (
  refl,
  λ plain.
      let i = c.loop-bit.bit-index in
      let lt : i < length letters = search rules in
      let so_far = c.loop-bit.invariant.1 plain in
      let here : IsPlainFormatter c.loop-bit.f = so_far.plain in
      has_written_of_eq _ _ _ _ _ (one_more c.args.self.now.0 i lt)
      (has_written_append _ _ _ _ _ _ so_far
      (elim c.if-self-bit-ne0.branch [
        | then-self-bit-ne0+in_ok-write w ↦ rw (
          w.f-is,
          ne_eqb _ _ w.if-self-bit-ne0.true,
          ← encode_ascii _ (ascii_at letters i refl),
        ) (search rules)
        | else-self-bit-ne0 w ↦ rw (w.f-is, eq-eqb _ _ w.if-self-bit-ne0.false) (search rules)
      ])),
)
