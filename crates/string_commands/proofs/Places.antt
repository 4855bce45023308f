-- The first place that fits, a step at a time.
use Rattle.std.proofs.Common.{ℕ, ℤ, ◌≡◌, ◌+◌, ◌-◌, ◌<◌, ◌≤◌, Bool, take, true, false, List, ◌∷◌, map, drop, get_or, length, Some, None, refl, sym, ap, ◌∙◌}
use Rattle.std.specs.Str.{bytes_eq}
use Rattle.std.proofs.lemmas.Bool.{le-ltb, lt-ltb}
use Rattle.std.proofs.lemmas.List.{drop_more, get_or-map, length-map, take_rest}
use Rattle.string_commands.specs.declared.entry.Entry.{Entry}
use Rattle.string_commands.specs.declared.row.Row.{Row}
use Rattle.string_commands.specs.declared.string_kind.StringKind.{StringKind}
use Rattle.string_commands.specs.Rows.{Finds, IsRow, first_fit, first_named, fits, has_key, is_key, place_below}
use Rattle.string_commands.specs.declared.table.TheConstants.{COUNT}

-- the rest of a mapped list
cut : {X Y : Type 0} (f : X → Y) (xs : List X) (at : ℕ) (d : X) → at < length xs
    → drop at (map f xs) ≡ f (get_or xs at d) ∷ drop (at + 1) (map f xs)
cut f xs at d lt =
    drop_more (map f xs) at (f d) (rw (length-map xs f) lt)
    ∙ ap (λ y. y ∷ drop (at + 1) (map f xs)) (get_or-map f xs at d (f d) lt)

pub name_later : {X : Type 0} (f : X → List ℕ) (name : List ℕ) (xs : List X) (at : ℕ) (d : X)
    (r : Bool) → at < length xs → r ≡ bytes_eq (f (get_or xs at d)) name → r ≡ false
    → first_named name (drop at (map f xs)) at
    ≡ first_named name (drop (at + 1) (map f xs)) (at + 1)
name_later f name xs at d r lt is differs =
    let e = sym is ∙ differs in
    ap (λ ns. first_named name ns at) (cut f xs at d lt) ∙ rw e refl

pub name_here : {X : Type 0} (f : X → List ℕ) (name : List ℕ) (xs : List X) (at : ℕ) (d : X)
    (r : Bool) → at < length xs → r ≡ bytes_eq (f (get_or xs at d)) name → r ≡ true
    → first_named name (drop at (map f xs)) at ≡ Some at
name_here f name xs at d r lt is same =
    let e = sym is ∙ same in
    ap (λ ns. first_named name ns at) (cut f xs at d lt) ∙ rw e refl

pub fit_later : {X : Type 0} (f : X → List ℕ) (kind : StringKind) (key : ℕ) (params : List ℤ)
    (text : List ℕ) (es : List Entry) (ss : List X) (at : ℕ) (e : Entry) (d : X) (r : Bool)
    → at < length es → at < length ss
    → r ≡ fits kind key params text (get_or es at e) (f (get_or ss at d)) → r ≡ false
    → first_fit kind key params text (drop at es) (drop at (map f ss)) at
    ≡ first_fit kind key params text (drop (at + 1) es) (drop (at + 1) (map f ss)) (at + 1)
fit_later f kind key params text es ss at e d r lt lt' is differs =
    let no_fit = sym is ∙ differs in
    ap (λ it. first_fit kind key params text it (drop at (map f ss)) at) (drop_more es at e lt)
    ∙ ap (λ it. first_fit kind key params text (get_or es at e ∷ drop (at + 1) es) it at)
    (cut f ss at d lt')
    ∙ rw no_fit refl

pub fit_here : {X : Type 0} (f : X → List ℕ) (kind : StringKind) (key : ℕ) (params : List ℤ)
    (text : List ℕ) (es : List Entry) (ss : List X) (at : ℕ) (e : Entry) (d : X) (r : Bool)
    → at < length es → at < length ss
    → r ≡ fits kind key params text (get_or es at e) (f (get_or ss at d)) → r ≡ true
    → first_fit kind key params text (drop at es) (drop at (map f ss)) at ≡ Some at
fit_here f kind key params text es ss at e d r lt lt' is same =
    let fit = sym is ∙ same in
    ap (λ it. first_fit kind key params text it (drop at (map f ss)) at) (drop_more es at e lt)
    ∙ ap (λ it. first_fit kind key params text (get_or es at e ∷ drop (at + 1) es) it at)
    (cut f ss at d lt')
    ∙ rw fit refl

-- a key begins here
pub key_here : (key text : List ℕ) (at : ℕ) (here r : Bool) → at < length text → here ≡ true
    → r ≡ is_key key (take (length text - at) (drop at text)) → r ≡ true
    → has_key true key text ≡ has_key here key (drop at text) → true ≡ has_key true key text
key_here key text at here r lt begins is same left =
    let cut = drop_more text at 0 lt in
    let there : is_key key (get_or text at 0 ∷ drop (at + 1) text) ≡ true =
    sym (is ∙ ap (is_key key) (take_rest text at ∙ cut)) ∙ same in
    sym (left ∙ ap (λ h. has_key h key (drop at text)) begins ∙ ap (has_key true key) cut
    ∙ rw there refl)

-- the row in a place
pub row_below : (i : ℕ) (r : Row) → i < COUNT → r.place ≡ i → IsRow r
    → Finds (place_below i) (Some r)
row_below i r lt same row =
    (rw (lt-ltb i COUNT lt) (ap (λ j. Some j) (sym same)), row)

pub no_row : (i : ℕ) → COUNT ≤ i → Finds (place_below i) None
no_row i past = rw (le-ltb i COUNT past) refl
