-- A run of the data.
use Rattle.std.proofs.Common.{◌≡◌, ℕ, List, [], ◌∷◌, ◌++◌, ap, sym, ◌∙◌, append-nil, append_assoc}
use Rattle.std.specs.List.{FoldsTo}
use Rattle.xtgettcap.specs.Names.{HasConsumed, Pushes}
use Rattle.xtgettcap.specs.declared.builder.GetTcapBuilder.{GetTcapBuilder}

abbrev with : {A : Type 0} → GetTcapBuilder A → List ℕ → GetTcapBuilder A
with p bs = record p { bytes = p.bytes ++ bs }

one : {A : Type 0} (p : GetTcapBuilder A) (b : ℕ) → Pushes p b (with p (b ∷ []))
unfolding HasConsumed
one p b = λ s h. ap (λ t. t ++ b ∷ []) h

-- bytes that are appended are pushed one after another
pub appended : {A : Type 0} (bs : List ℕ) (p q : GetTcapBuilder A) → q ≡ with p bs
    → FoldsTo Pushes p bs q
appended [] p q e = ap (λ t. record p { bytes = t }) (sym (append-nil p.bytes)) ∙ sym e
appended (b ∷ bs) p q e = (
  with p (b ∷ []),
  one p b,
  appended bs (with p (b ∷ [])) q
      (e ∙ ap (λ t. record p { bytes = t }) (sym (append_assoc p.bytes (b ∷ []) bs))),
)
