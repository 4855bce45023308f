use Rattle.std.proofs.Common.{arith, ◌≡◌, ◌∷◌, ◌++◌, [], List, ℕ, codes, ap, ◌∙◌, append_assoc}
use Rattle.unicode_visibility.specs.Characters.{four_digits, leading, number_text}
use Rattle.unicode_visibility.proofs.number.number_text.Goals as goal

joins : (a b c d t u v w : List ℕ) → t ≡ a → u ≡ t ++ b → v ≡ u ++ c → w ≡ v ++ d
    → w ≡ a ++ (b ++ (c ++ d))
joins a b c d t u v w e f g h = h ∙ ap (λ z. z ++ d) (g ∙ ap (λ z. z ++ c) (f ∙ ap (λ z. z ++ b) e))
    ∙ append_assoc (a ++ b) c d ∙ append_assoc a b (c ++ d)

pub returns : goal.returns
unfolding number_text
returns c =
    let n = c.args.c in
    joins (codes "<U+") (leading n) (four_digits n) (0x3e ∷ []) c.push_str.new.self.bytes
    c.push_leading.new.text.bytes c.push_four.new.text.bytes c.push.new.self.bytes
    (c.push_str.ensures.bytes ∙ ap (λ z. z ++ codes "<U+") c.new-text.ensures)
    c.push_leading.ensures c.push_four.ensures (c.push.ensures.ascii (omega arith))
