-- One key more is written.
use Rattle.std.proofs.Common.{ℕ, ◌≡◌, ◌+◌, ◌<◌, Bool, not, ◌&&◌, List, [], ◌∷◌, ◌++◌, length, map, take, get_or, Option, Some, None, refl, sym, ap}
use Rattle.std.proofs.Common.{◌∙◌, append_assoc, append-nil}
use Rattle.std.specs.Option.{is_some}
use Rattle.std.specs.List.{flat_map}
use Rattle.std.proofs.lemmas.List.{take_more, flat_map_more, map-append}
use Rattle.esc_values.specs.Cuts.{Pairs, pair_text}
use Rattle.esc_values.specs.Fields.{Entry, is_bare, with_value, present_pairs}
use Rattle.esc_kitty.specs.Texts.{keys_text, entry_text, entry_by}

with_value_push : (n : List ℕ) (v : Option (List ℕ)) (es ds : Pairs)
    → with_value n v (es ++ ds) ≡ with_value n v es ++ ds
with_value_push n None es ds = refl
with_value_push n (Some v) es ds = refl

written_push : (es : List Entry) (e : Entry)
    → present_pairs (es ++ e ∷ []) ≡ present_pairs es ++ with_value e.0 e.1 []
written_push [] e = refl
written_push (d ∷ es) e = ap (with_value d.0 d.1) (written_push es e)
    ∙ with_value_push d.0 d.1 (present_pairs es) (with_value e.0 e.1 [])

text_push : (es : Pairs) (n : List ℕ) (v : Option (List ℕ))
    → keys_text (es ++ with_value n v []) ≡ keys_text es ++ entry_by (is_bare es) n v
text_push [] n None = refl
text_push [] n (Some v) = append-nil (pair_text (n, v))
text_push (e ∷ es) n None = rw (append-nil es) (sym (append-nil (keys_text (e ∷ es))))
text_push (e ∷ es) n (Some v) =
    ap (λ t. pair_text e ++ t)
    (sym (flat_map_more (λ (d : List ℕ × List ℕ). 0x2c ∷ pair_text d) [] es (n, v)))
    ∙ sym (append_assoc (pair_text e) (flat_map (λ (d : List ℕ × List ℕ). 0x2c ∷ pair_text d) es)
    (0x2c ∷ pair_text (n, v)))

bare_push : (es : Pairs) (n : List ℕ) (v : Option (List ℕ))
    → is_bare (es ++ with_value n v []) ≡ (is_bare es && not (is_some v))
bare_push [] n None = refl
bare_push [] n (Some v) = refl
bare_push (e ∷ es) n v = refl

written_more : {X : Type 0} (f : X → Entry) (keys : List X) (i : ℕ) (d : X) → i < length keys
    → present_pairs (map f (take (i + 1) keys)) ≡ present_pairs (map f (take i keys))
    ++ with_value (f (get_or keys i d)).0 (f (get_or keys i d)).1 []
written_more f keys i d lt =
    ap (λ xs. present_pairs (map f xs)) (take_more keys i d lt)
    ∙ ap present_pairs (map-append f (take i keys) (get_or keys i d ∷ []))
    ∙ written_push (map f (take i keys)) (f (get_or keys i d))

-- the text of the keys so far, where first says whether none of them is written
pub text_more : {X : Type 0} (f : X → Entry) (keys : List X) (i : ℕ) (d : X) (first : Bool)
    → i < length keys → first ≡ is_bare (present_pairs (map f (take i keys)))
    → keys_text (present_pairs (map f (take i keys))) ++ entry_text first (f (get_or keys i d))
    ≡ keys_text (present_pairs (map f (take (i + 1) keys)))
text_more f keys i d first lt is =
    ap (λ b. keys_text (present_pairs (map f (take i keys)))
    ++ entry_text b (f (get_or keys i d))) is
    ∙ sym (ap keys_text (written_more f keys i d lt) ∙ text_push
    (present_pairs (map f (take i keys)))
    (f (get_or keys i d)).0 (f (get_or keys i d)).1)

pub bare_more : {X : Type 0} (f : X → Entry) (keys : List X) (i : ℕ) (d : X) (first after : Bool)
    → i < length keys
    → first ≡ is_bare (present_pairs (map f (take i keys)))
    → after ≡ (first && not (is_some (f (get_or keys i d)).1))
    → after ≡ is_bare (present_pairs (map f (take (i + 1) keys)))
bare_more f keys i d first after lt was is =
    is ∙ ap (λ b. b && not (is_some (f (get_or keys i d)).1)) was
    ∙ sym (ap is_bare (written_more f keys i d lt) ∙ bare_push (present_pairs (map f (take i keys)))
    (f (get_or keys i d)).0 (f (get_or keys i d)).1)
