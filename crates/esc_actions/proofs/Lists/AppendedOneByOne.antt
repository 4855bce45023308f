-- Values that are appended one by one.
use Rattle.std.proofs.Common.{◌≡◌, List, [], ◌∷◌, ◌++◌, refl, ap, sym, ◌∙◌, append_assoc}
use Rattle.std.specs.Char.{encode_utf8}
use Rattle.esc_actions.specs.Appending.{appended_list, appended_all, gathered_values, gathered_from, joined_values}
use Rattle.esc_actions.specs.Values.{Value, print, string}

-- by the last of a list
appended_last : {A : Type 0} (us : List (Value A)) (v w : Value A)
    → appended_list (us ++ v ∷ []) w ≡ us ++ joined_values v w
appended_last [] v w = refl
appended_last (u ∷ []) v w = refl
appended_last (u ∷ x ∷ us) v w = ap (λ l. u ∷ l) (appended_last (x ∷ us) v w)

-- appended to any list that ends in a value, these give the same list as after that value alone
abbrev Gathers : {A : Type 0} → List (Value A) → Type 0
Gathers {A} vs = (us : List (Value A)) (v : Value A)
    → appended_all (us ++ v ∷ []) vs ≡ us ++ gathered_from v vs

-- two that stay apart
apart : {A : Type 0} (v w : Value A) (vs us : List (Value A)) → Gathers vs
    → appended_all (us ++ v ∷ w ∷ []) vs ≡ us ++ v ∷ gathered_from w vs
apart v w vs us h =
    ap (λ l. appended_all l vs) (sym (append_assoc us (v ∷ []) (w ∷ [])))
    ∙ h (us ++ v ∷ []) w
    ∙ append_assoc us (v ∷ []) (gathered_from w vs)

joined_next : {A : Type 0} (v w : Value A) (vs us : List (Value A)) → Gathers vs
    → appended_all (us ++ joined_values v w) vs ≡ us ++ gathered_from v (w ∷ vs)
joined_next (print c) (print d) vs us h = h us (string (encode_utf8 c ++ encode_utf8 d))
joined_next (string t) (print d) vs us h = h us (string (t ++ encode_utf8 d))
joined_next v w vs us h = apart v w vs us h

gathers : {A : Type 0} (vs : List (Value A)) → Gathers vs
gathers [] us v = refl
gathers (w ∷ vs) us v =
    ap (λ l. appended_all l vs) (appended_last us v w) ∙ joined_next v w vs us (gathers vs)

pub one_by_one : {A : Type 0} (vs : List (Value A)) → appended_all [] vs ≡ gathered_values vs
one_by_one [] = refl
one_by_one (v ∷ vs) = gathers vs [] v
