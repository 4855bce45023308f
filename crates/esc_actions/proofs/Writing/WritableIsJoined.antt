-- A list is writable exactly if it is writable single values and groups, joined.
use Rattle.std.proofs.Common.{ℕ, ◌≡◌, true, false, List, [], ◌∷◌, ◌++◌, map, refl, ap, sym, ◌∙◌, subst, append_assoc}
use Rattle.std.specs.List.{flat_map, list_all}
use Rattle.std.proofs.lemmas.Bool.{and_parts}
use Rattle.esc_actions.specs.Groups.{Group, single, mode, members, IsWritableGroup, AreWritableGroups, JoinsGroups}
use Rattle.esc_actions.specs.Values.{Value, print, string, control, esc, csi, osc, kitty, sixel, termcap, short, enter, datum, exit}
use Rattle.esc_actions.specs.Writable.{AreWritable, AreWritableFrom, IsWritable, is_within, stays_within}
use Rattle.esc_device.specs.declared.enter.EnterDeviceControlMode.{EnterDeviceControlMode as Enter}
use Rattle.esc_device.specs.Writable.{AreData, is_datum}

joins_single : {A : Type 0} (v : Value A) (vs : List (Value A)) → IsWritable v → is_within v ≡ false
    → stays_within v ≡ false → JoinsGroups vs
    → JoinsGroups (v ∷ vs)
joins_single v vs h o p (gs, all, e) = (single v ∷ gs, ((h, o, p), all), ap (λ x. v ∷ x) e)

-- inside a mode: its bytes, its end, and the rest
abbrev Inside : {A : Type 0} → List (Value A) → Type 0
Inside {A = A} vs = (d : List ℕ) × (ws : List (Value A)) × AreData d
    × (vs ≡ map datum d ++ exit ∷ ws) × JoinsGroups ws

joins_mode : {A : Type 0} (e : Enter A) (vs : List (Value A)) → IsWritable (enter e) → Inside vs
    → JoinsGroups (enter e ∷ vs)
joins_mode e vs h (d, ws, was, is, (gs, all, joined)) = (
  mode e d ∷ gs,
  ((h, was), all),
  ap (λ x. enter e ∷ x) (is ∙ ap (λ x. map datum d ++ exit ∷ x) joined
      ∙ sym (append_assoc (map datum d) (exit ∷ []) (flat_map members gs))),
)

joins_datum : {A : Type 0} (b : ℕ) (vs : List (Value A)) → is_datum b ≡ true → Inside vs
    → Inside (datum b ∷ vs)
joins_datum b vs h (d, ws, was, is, rest) =
    (b ∷ d, ws, rw (h, was) refl, ap (λ x. datum b ∷ x) is, rest)

joins_both : {A : Type 0} (vs : List (Value A)) → (AreWritableFrom false vs → JoinsGroups vs)
    × (AreWritableFrom true vs → Inside vs)
joins_both [] = (λ h. ([], tt, refl), λ h. absurd cc)
joins_both (print c ∷ vs) = (
  λ h. joins_single (print c) vs h.1 refl refl ((joins_both vs).0 h.2),
  λ h. absurd (let e = h.0 in cc),
)
joins_both (string t ∷ vs) = (
  λ h. joins_single (string t) vs h.1 refl refl ((joins_both vs).0 h.2),
  λ h. absurd (let e = h.0 in cc),
)
joins_both (control c ∷ vs) = (
  λ h. joins_single (control c) vs h.1 refl refl ((joins_both vs).0 h.2),
  λ h.
      absurd (let e = h.0 in cc),
)
joins_both (esc e ∷ vs) = (
  λ h. joins_single (esc e) vs h.1 refl refl ((joins_both vs).0 h.2),
  λ h.
      absurd (let e = h.0 in cc),
)
joins_both (csi c ∷ vs) = (
  λ h. joins_single (csi c) vs h.1 refl refl ((joins_both vs).0 h.2),
  λ h.
      absurd (let e = h.0 in cc),
)
joins_both (osc c ∷ vs) = (
  λ h. joins_single (osc c) vs h.1 refl refl ((joins_both vs).0 h.2),
  λ h.
      absurd (let e = h.0 in cc),
)
joins_both (kitty i ∷ vs) = (
  λ h. joins_single (kitty i) vs h.1 refl refl ((joins_both vs).0 h.2),
  λ h. absurd (let e = h.0 in cc),
)
joins_both (sixel s ∷ vs) = (
  λ h. joins_single (sixel s) vs h.1 refl refl ((joins_both vs).0 h.2),
  λ h. absurd (let e = h.0 in cc),
)
joins_both (termcap d ∷ vs) = (
  λ h. joins_single (termcap d) vs h.1 refl refl ((joins_both vs).0 h.2),
  λ h.
      absurd (let e = h.0 in cc),
)
joins_both (short s ∷ vs) = (
  λ h. joins_single (short s) vs h.1 refl refl ((joins_both vs).0 h.2),
  λ h. absurd (let e = h.0 in cc),
)
joins_both (enter e ∷ vs) =
    (λ h. joins_mode e vs h.1 ((joins_both vs).1 h.2), λ h. absurd (let e = h.0 in cc))
joins_both (datum b ∷ vs) =
    (λ h. absurd (let e = h.0 in cc), λ h. joins_datum b vs h.1 ((joins_both vs).1 h.2))
joins_both (exit ∷ vs) =
    (λ h. absurd (let e = h.0 in cc), λ h. ([], vs, refl, refl, (joins_both vs).0 h.2))

pub joins_groups : {A : Type 0} (vs : List (Value A)) → AreWritable vs → JoinsGroups vs
joins_groups vs h = (joins_both vs).0 h

-- and back
data_writable : {A : Type 0} (d : List ℕ) (vs : List (Value A)) → AreData d
    → AreWritableFrom false vs → AreWritableFrom true ((map datum d ++ exit ∷ []) ++ vs)
data_writable [] vs h k = (refl, tt, k)
data_writable (b ∷ d) vs h k = let q = and_parts (is_datum b) (list_all is_datum d) h in
    (refl, q.0, data_writable d vs q.1 k)

group_writable : {A : Type 0} (g : Group A) (vs : List (Value A)) → IsWritableGroup g
    → AreWritableFrom false vs → AreWritableFrom false (members g ++ vs)
group_writable (single v) vs h k = (h.1, h.0, subst (λ w. AreWritableFrom w vs) (sym h.2) k)
group_writable (mode e d) vs h k = (refl, h.0, data_writable d vs h.1 k)

groups_writable : {A : Type 0} (gs : List (Group A)) → AreWritableGroups gs
    → AreWritable (flat_map members gs)
groups_writable [] h = refl
groups_writable (g ∷ gs) h = group_writable g (flat_map members gs) h.0 (groups_writable gs h.1)

pub joined_writable : {A : Type 0} (vs : List (Value A)) → JoinsGroups vs → AreWritable vs
joined_writable vs (gs, all, e) = subst (λ x. AreWritable x) (sym e) (groups_writable gs all)
