-- Looks and links are where the chains of their slots have them.
use Rattle.std.proofs.Common.{ℕ, ◌≡◌, ◌==◌, ◌+◌, Bool, true, false, Result, Ok, Err, OnOk, ◌&&◌, List, [], ◌∷◌, map, get_or, if◌then◌else◌, refl, ap, sym, ◌∙◌}
use Rattle.std.specs.Result.{is_err}
use Rattle.std.specs.Str.{bytes_eq}
use Rattle.std.proofs.lemmas.Bool.{and_parts, eqb-true, true≢false}
use Rattle.std.proofs.lemmas.Slice.Eq.{bytes_eq-Decides}
use Rattle.esc_links.specs.declared.hyperlink.Hyperlink.{Hyperlink}
use Rattle.esc_style.specs.Looks.{plain_look}
use Rattle.esc_style.specs.declared.look.Look.{Look}
use Rattle.esc_sgr.specs.Sgr.{same_look}
use Rattle.esc_values.specs.Cuts.{Pairs}
use Rattle.esc_terminal.specs.Links.{Target, link_place, linked_of, linked_place, same_linked, same_pairs, same_target, target}
use Rattle.esc_terminal.specs.Looks.{place_of}
use Rattle.esc_terminal.specs.Slots.{link_slot, target_slot}
use Rattle.esc_terminal.specs.declared.styles.Linked.{Linked}
use Rattle.esc_terminal.proofs.Chained.{first_place}

-- a call that returned no error
pub not_err : {U E X : Type 0} (r : Result U E) → is_err r ≡ false → OnOk r X → X
not_err (Ok u) h x = x
not_err (Err e) h x = absurd (true≢false h)

-- ---- looks

pub look_first : (l : Look) (ks : List Look)
    → first_place (λ k. same_look k l) ks ≡ place_of l ks
look_first l [] = refl
look_first l (k ∷ ks) = ap (λ n. if same_look k l then 0 else n + 1) (look_first l ks)

abbrev pub is_look_at : Look → List Look → ℕ → Bool
is_look_at l ks i = same_look (get_or ks i plain_look) l

-- ---- links

same_pairs_is : (p q : Pairs) → same_pairs p q ≡ true → p ≡ q
same_pairs_is [] [] h = refl
same_pairs_is [] (e ∷ q) h = absurd (true≢false (sym h))
same_pairs_is (d ∷ p) [] h = absurd (true≢false (sym h))
same_pairs_is (d ∷ p) (e ∷ q) h =
    let r = and_parts (bytes_eq d.0 e.0 && bytes_eq d.1 e.1) (same_pairs p q) h in
    let s = and_parts (bytes_eq d.0 e.0) (bytes_eq d.1 e.1) r.0 in
    ap (λ k. (k, d.1) ∷ p) ((bytes_eq-Decides d.0 e.0).0 s.0)
    ∙ ap (λ v. (e.0, v) ∷ p) ((bytes_eq-Decides d.1 e.1).0 s.1)
    ∙ ap (λ z. e ∷ z) (same_pairs_is p q r.1)

pub target_is : (t s : Target) → same_target s t ≡ true → s ≡ t
target_is t s h =
    let r = and_parts (same_pairs s.0 t.0) (bytes_eq s.1 t.1) h in
    ap (λ z. (z, s.1)) (same_pairs_is s.0 t.0 r.0)
    ∙ ap (λ z. (t.0, z)) ((bytes_eq-Decides s.1 t.1).0 r.1)

pub link_first : (t : Target) (ts : List Target)
    → first_place (λ s. same_target s t) ts ≡ link_place t ts
link_first t [] = refl
link_first t (s ∷ ts) = ap (λ n. if same_target s t then 0 else n + 1) (link_first t ts)

abbrev pub is_target_at : Target → List Target → ℕ → Bool
is_target_at t ts i = same_target (get_or ts i ([], [])) t

-- the slots of links are those of their targets
pub link_slots : {A : Type 0} (hs : List (Hyperlink A))
    → map link_slot hs ≡ map target_slot (map target hs)
link_slots [] = refl
link_slots (h ∷ hs) = ap (λ ss. link_slot h ∷ ss) (link_slots hs)

-- ---- looks of characters that lead somewhere

pub linked_is : (p q : Linked) → same_linked q p ≡ true → q ≡ p
linked_is p q h =
    let r = and_parts (q.look == p.look) (q.link == p.link) h in
    ap (λ n. linked_of n q.link) (eqb-true q.look p.look r.0)
    ∙ ap (linked_of p.look) (eqb-true q.link p.link r.1)

pub linked_first : (p : Linked) (ps : List Linked)
    → first_place (λ q. same_linked q p) ps ≡ linked_place p ps
linked_first p [] = refl
linked_first p (q ∷ ps) = ap (λ n. if same_linked q p then 0 else n + 1) (linked_first p ps)

abbrev pub is_linked_at : Linked → List Linked → ℕ → Bool
is_linked_at p ps i = same_linked (get_or ps i (linked_of 0 0)) p
