-- One key more of a file is written.
use Rattle.std.proofs.Common.{ℕ, ◌≡◌, ◌+◌, ◌<◌, Bool, true, false, not, ◌&&◌, List, [], ◌∷◌}
use Rattle.std.proofs.Common.{◌++◌, length, map, take, get_or, Option, Some, None, refl, sym, ap, ◌∙◌}
use Rattle.std.proofs.Common.{append_assoc, append-nil}
use Rattle.std.specs.Option.{is_some}
use Rattle.std.proofs.lemmas.List.{take_more, flat_map_more, map-append}
use Rattle.esc_values.specs.Clear.{semicolon_list, separated_parts}
use Rattle.esc_values.specs.Cuts.{Pairs, pair_text}
use Rattle.esc_values.specs.Fields.{Entry, with_value, present_pairs}
use Rattle.esc_iterm.specs.Files.{key_slices, parts_after}

-- whether there is no slice
abbrev pub is_nothing : List (List ℕ) → Bool
is_nothing [] = true
is_nothing (p ∷ ps) = false

slice_push : (k : List ℕ) (o : Option (List ℕ)) (es : Pairs)
    → map pair_text (with_value k o es) ≡ key_slices ((k, o) ∷ []) ++ map pair_text es
slice_push k None es = refl
slice_push k (Some v) es = refl

slices_push : (es : List Entry) (e : Entry)
    → key_slices (es ++ e ∷ []) ≡ key_slices es ++ key_slices (e ∷ [])
slices_push [] e = refl
slices_push (d ∷ es) e =
    slice_push d.0 d.1 (present_pairs (es ++ e ∷ []))
    ∙ ap (λ t. key_slices (d ∷ []) ++ t) (slices_push es e)
    ∙ sym (append_assoc (key_slices (d ∷ [])) (key_slices es) (key_slices (e ∷ [])))
    ∙ ap (λ t. t ++ key_slices (e ∷ [])) (sym (slice_push d.0 d.1 (present_pairs es)))

text_push : (ps : List (List ℕ)) (k : List ℕ) (o : Option (List ℕ))
    → semicolon_list (ps ++ key_slices ((k, o) ∷ []))
    ≡ semicolon_list ps ++ parts_after (is_nothing ps) (key_slices ((k, o) ∷ []))
text_push [] k o = refl
text_push (p ∷ ps) k None = rw (append-nil ps) (sym (append-nil (semicolon_list (p ∷ ps))))
text_push (p ∷ ps) k (Some v) =
    ap (λ t. p ++ t) (sym (flat_map_more (λ (q : List ℕ). 0x3b ∷ q) [] ps (pair_text (k, v))))
    ∙ sym (append_assoc p (separated_parts ps) (0x3b ∷ pair_text (k, v)))
    ∙ ap (λ t. semicolon_list (p ∷ ps) ++ 0x3b ∷ t) (sym (append-nil (pair_text (k, v))))

first_push : (ps : List (List ℕ)) (k : List ℕ) (o : Option (List ℕ))
    → is_nothing (ps ++ key_slices ((k, o) ∷ [])) ≡ (is_nothing ps && not (is_some o))
first_push [] k None = refl
first_push [] k (Some v) = refl
first_push (p ∷ ps) k o = refl

slices_more : {X : Type 0} (f : X → Entry) (keys : List X) (i : ℕ) (d : X)
    → i < length keys
    → key_slices (map f (take (i + 1) keys)) ≡ key_slices (map f (take i keys))
    ++ key_slices (f (get_or keys i d) ∷ [])
slices_more f keys i d lt =
    ap (λ xs. key_slices (map f xs)) (take_more keys i d lt)
    ∙ ap key_slices (map-append f (take i keys) (get_or keys i d ∷ []))
    ∙ slices_push (map f (take i keys)) (f (get_or keys i d))

-- the text of the keys so far and one more, where first says whether none of them is written
pub text_more : {X : Type 0} (f : X → Entry) (keys : List X) (i : ℕ) (d : X) (first : Bool)
    → i < length keys → first ≡ is_nothing (key_slices (map f (take i keys)))
    → semicolon_list (key_slices (map f (take i keys)))
    ++ parts_after first (key_slices (f (get_or keys i d) ∷ []))
    ≡ semicolon_list (key_slices (map f (take (i + 1) keys)))
text_more f keys i d first lt is =
    let k = f (get_or keys i d) in
    ap (λ b. semicolon_list (key_slices (map f (take i keys)))
    ++ parts_after b (key_slices (k ∷ []))) is
    ∙ sym (ap semicolon_list (slices_more f keys i d lt) ∙ text_push
    (key_slices (map f (take i keys))) k.0
    k.1)

pub first_more : {X : Type 0} (f : X → Entry) (keys : List X) (i : ℕ) (d : X) (first after : Bool)
    → i < length keys → first ≡ is_nothing (key_slices (map f (take i keys)))
    → after ≡ (first && not (is_some (f (get_or keys i d)).1))
    → after ≡ is_nothing (key_slices (map f (take (i + 1) keys)))
first_more f keys i d first after lt was is =
    let k = f (get_or keys i d) in
    is ∙ ap (λ b. b && not (is_some k.1)) was
    ∙ sym (ap is_nothing (slices_more f keys i d lt) ∙ first_push (key_slices (map f (take i keys)))
    k.0 k.1)
