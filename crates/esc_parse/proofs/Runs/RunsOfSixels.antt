-- A run of the data of a sixel image.
use Rattle.std.proofs.Common.{◌≡◌, ℕ, List, [], ◌∷◌, ◌++◌, ap, sym, ◌∙◌, append-nil, append_assoc}
use Rattle.std.specs.List.{FoldsTo}
use Rattle.esc_parse.specs.Sixels.{Holds, Pushes}
use Rattle.esc_parse.specs.declared.sixel_text.SixelText.{SixelText}

abbrev with : {A : Type 0} → SixelText A → List ℕ → SixelText A
with p bs = record p { «data» = p.data ++ bs }

one : {A : Type 0} (p : SixelText A) (b : ℕ) → Pushes p b (with p (b ∷ []))
unfolding Holds
one p b = λ ps s h. (h.0, ap (λ t. t ++ b ∷ []) h.1)

-- bytes that are appended are pushed one after another
pub appended : {A : Type 0} (bs : List ℕ) (p q : SixelText A) → q ≡ with p bs
    → FoldsTo Pushes p bs q
appended [] p q e = ap (λ t. record p { «data» = t }) (sym (append-nil p.data)) ∙ sym e
appended (b ∷ bs) p q e = (
  with p (b ∷ []),
  one p b,
  appended bs (with p (b ∷ [])) q
      (e ∙ ap (λ t. record p { «data» = t }) (sym (append_assoc p.data (b ∷ []) bs))),
)
