-- One value more.
use Rattle.std.proofs.Common.{◌≡◌, ℕ, Bool, false, List, [], ◌∷◌, ◌++◌, sym, ap, ◌∙◌, append-nil}
use Rattle.esc_actions.specs.Texts.{is_string, list_text, text_after}
use Rattle.esc_actions.specs.Values.{Value}
use Rattle.esc_normal.proofs.Texts.{ends_more, texts_more}
use Rattle.esc_filter.specs.Encoding.{AddsTo}
use Rattle.esc_normal.specs.Texts.{ends_in_string}

pub adds_one : {A : Type 0} (follows : Bool) (vs : List (Value A)) (v : Value A) (old new : List ℕ)
    → follows ≡ ends_in_string false vs
    → new ≡ old ++ text_after follows v → AddsTo vs v old new
adds_one follows vs v old new e w = (
  text_after follows v,
  texts_more false vs (v ∷ [])
      ∙ ap (λ t. list_text vs ++ t) (append-nil (text_after (ends_in_string false vs) v)
      ∙ ap (λ b. text_after b v) (sym e)),
  w,
)

pub ends_one : {A : Type 0} (vs : List (Value A)) (v : Value A)
    → ends_in_string false (vs ++ v ∷ []) ≡ is_string v
ends_one vs v = ends_more false vs (v ∷ [])
