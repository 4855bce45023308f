-- Links that are kept.
use Rattle.std.proofs.Common.{ℕ, ◌≡◌, ◌<◌, ◌==◌, Bool, true, false, nat_lt, List, [], ◌∷◌, ◌++◌, length, map, get_or, if◌then◌else◌, refl, sym, subst, ◌∙◌}
use Rattle.std.proofs.lemmas.Bool.{eq-eqb, lt-ltb, ne_eqb, true≢false}
use Rattle.std.proofs.lemmas.List.{get_or-map, length-map, map-append}
use Rattle.esc_links.specs.declared.hyperlink.Hyperlink.{Hyperlink}
use Rattle.esc_terminal.specs.Links.{Target, link_place, most_links, target, with_target}

kept_if : {X : Type 0} (b c : Bool) (us ts : X) → b ≡ true → c ≡ true
    → us ≡ (if b then (if c then us else ts) else ts)
kept_if true true us ts p q = refl
kept_if true false us ts p q = absurd (true≢false (sym q))
kept_if false c us ts p q = absurd (true≢false (sym p))

same_if : {X : Type 0} (b c : Bool) (us ts : X) → c ≡ false
    → ts ≡ (if b then (if c then us else ts) else ts)
same_if true true us ts q = absurd (true≢false q)
same_if true false us ts q = refl
same_if false c us ts q = refl

-- one that is new is the last
pub link_kept : {A : Type 0} (h : Hyperlink A) (hs : List (Hyperlink A)) (n : ℕ)
    → n ≡ link_place (target h) (map target hs) → n < most_links → n ≡ length hs
    → map target (hs ++ h ∷ []) ≡ with_target (target h) (map target hs)
link_kept h hs n is few all =
    let t = target h in
    let ts = map target hs in
    let last : link_place t ts ≡ length ts = sym is ∙ all ∙ sym (length-map hs target) in
    map-append target hs (h ∷ [])
    ∙ kept_if (nat_lt (link_place t ts) most_links) (link_place t ts == length ts) (ts ++ t ∷ [])
    ts (lt-ltb (link_place t ts) most_links (subst (λ k. k < most_links) is few))
    (eq-eqb (link_place t ts) (length ts) last)

-- one that was there before changes nothing
pub link_same : {A : Type 0} (h : Hyperlink A) (hs : List (Hyperlink A)) (n : ℕ)
    → n ≡ link_place (target h) (map target hs) → (n ≡ length hs → ⊥)
    → map target hs ≡ with_target (target h) (map target hs)
link_same h hs n is other =
    let t = target h in
    let ts = map target hs in
    same_if (nat_lt (link_place t ts) most_links) (link_place t ts == length ts) (ts ++ t ∷ [])
    ts (ne_eqb (link_place t ts) (length ts) (λ e. other (is ∙ e ∙ length-map hs target)))

-- the link at a place
pub target_here : {A : Type 0} (hs : List (Hyperlink A)) (m : ℕ) (h : Hyperlink A) → m < length hs
    → get_or (map target hs) m ([], []) ≡ target (get_or hs m h)
target_here hs m h less = get_or-map target hs m h ([], []) less

pub length_targets : {A : Type 0} (hs : List (Hyperlink A)) → length (map target hs) ≡ length hs
length_targets hs = length-map hs target
