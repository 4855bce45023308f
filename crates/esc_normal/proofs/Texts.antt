-- Texts that grow by one value after another.
use Rattle.std.proofs.Common.{◌≡◌, Bool, List, [], ◌∷◌, ◌++◌, refl, sym, ap, ◌∙◌, append_assoc}
use Rattle.esc_actions.specs.Texts.{is_string, text_after, texts_after}
use Rattle.esc_actions.specs.Values.{Value}
use Rattle.esc_normal.specs.Texts.{ends_in_string}

-- one list after another
pub texts_more : {A : Type 0} (follows : Bool) (vs ws : List (Value A))
    → texts_after follows (vs ++ ws) ≡ texts_after follows vs
    ++ texts_after (ends_in_string follows vs) ws
texts_more follows [] ws = refl
texts_more follows (v ∷ vs) ws =
    ap (λ t. text_after follows v ++ t) (texts_more (is_string v) vs ws)
    ∙ sym (append_assoc (text_after follows v) (texts_after (is_string v) vs)
    (texts_after (ends_in_string (is_string v) vs) ws))

pub ends_more : {A : Type 0} (follows : Bool) (vs ws : List (Value A))
    → ends_in_string follows (vs ++ ws) ≡ ends_in_string (ends_in_string follows vs) ws
ends_more follows [] ws = refl
ends_more follows (v ∷ vs) ws = ends_more (is_string v) vs ws
