-- The values that a filter makes of a normal list whose own values all pass: that list, or the one
-- without the string terminators.
use Rattle.std.proofs.Common.{◌≡◌, Bool, true, false, not, ◌&&◌, ◌||◌, if◌then◌else◌, List, [], ◌∷◌, ◌++◌, refl, sym, ap, ◌∙◌}
use Rattle.std.specs.List.{filter, list_all}
use Rattle.std.proofs.lemmas.Bool.{and_parts, true≢false}
use Rattle.esc_actions.specs.Texts.{begins_terminator, is_string, is_terminator, normal, spelled_values, terminator}
use Rattle.esc_actions.specs.Values.{Value, print, string, control, esc, csi, osc, kitty, sixel, termcap, short, enter, datum, exit}
use Rattle.esc_filter.specs.Closing.{after_value, after_values}
use Rattle.esc_filter.specs.declared.terminal.Terminal.{Terminal}
use Rattle.esc_idempotent.proofs.Singles.{is_single}

pub single_spelled : {A : Type 0} (v : Value A) → is_single v ≡ true → spelled_values v ≡ v ∷ []
single_spelled (string t) h = absurd (true≢false (sym h))
single_spelled (print c) h = refl
single_spelled (control c) h = refl
single_spelled (esc e) h = refl
single_spelled (csi c) h = refl
single_spelled (osc c) h = refl
single_spelled (kitty i) h = refl
single_spelled (sixel s) h = refl
single_spelled (termcap ns) h = refl
single_spelled (short s) h = refl
single_spelled (enter e) h = refl
single_spelled (datum b) h = refl
single_spelled exit h = refl

module _ {A : Type 0} where
  -- a terminator, if there is none
  abbrev pub ended : Bool → List (Value A) → List (Value A)
  ended t vs = (if t then terminator ∷ [] else []) ++ vs

  -- whether a value wants one before these
  abbrev pub wants : Value A → List (Value A) → Bool
  wants v vs = is_string v && not (begins_terminator vs)

  pub normal_more : (v : Value A) (vs : List (Value A)) → is_single v ≡ true
      → normal (v ∷ vs) ≡ v ∷ ended (wants v vs) (normal vs)
  normal_more v vs h =
      ap (λ x. (x ++ (if wants v vs then terminator ∷ [] else [])) ++ normal vs)
      (single_spelled v h)

  module _ (p : Value A → Bool) where
    more_kept : (v : Value A) (vs ws : List (Value A)) → p v ≡ true → filter p vs ≡ ws
        → filter p (v ∷ vs) ≡ v ∷ ws
    more_kept v vs ws h e = rw h (ap (λ x. v ∷ x) e)

    ended_kept : p terminator ≡ true → (t : Bool) (vs : List (Value A)) → filter p vs ≡ vs
        → filter p (ended t vs) ≡ ended t vs
    ended_kept h true vs e = more_kept terminator vs vs h e
    ended_kept h false vs e = e

    ended_left : p terminator ≡ false → (t : Bool) (vs ws : List (Value A)) → filter p vs ≡ ws
        → filter p (ended t vs) ≡ ws
    ended_left h true vs ws e = rw h e
    ended_left h false vs ws e = e

    pub all_kept : p terminator ≡ true → (vs : List (Value A)) → list_all p vs ≡ true
        → list_all is_single vs ≡ true → filter p (normal vs) ≡ normal vs
    all_kept h [] a s = refl
    all_kept h (v ∷ vs) a s =
        let q = and_parts (p v) (list_all p vs) a in
        let r = and_parts (is_single v) (list_all is_single vs) s in
        let n = ended (wants v vs) (normal vs) in
        ap (filter p) (normal_more v vs r.0)
        ∙ more_kept v n n q.0
        (ended_kept h (wants v vs) (normal vs) (all_kept h vs q.1 r.1))
        ∙ sym (normal_more v vs r.0)

    pub own_kept : p terminator ≡ false → (vs : List (Value A)) → list_all p vs ≡ true
        → list_all is_single vs ≡ true → filter p (normal vs) ≡ vs
    own_kept h [] a s = refl
    own_kept h (v ∷ vs) a s =
        let q = and_parts (p v) (list_all p vs) a in
        let r = and_parts (is_single v) (list_all is_single vs) s in
        ap (filter p) (normal_more v vs r.0)
        ∙ more_kept v (ended (wants v vs) (normal vs)) vs q.0
        (ended_left h (wants v vs) (normal vs) vs (own_kept h vs q.1 r.1))

    -- each value of the normal list passes, or is a terminator
    abbrev or_ends : Value A → Bool
    or_ends v = is_terminator v || p v

    or_passes : (v : Value A) → p v ≡ true → or_ends v ≡ true
    or_passes v h = by (is_terminator v)
      where
        by : (t : Bool) → (t || p v) ≡ true
        by true = refl
        by false = h

    ended_each : (t : Bool) (vs : List (Value A)) → list_all or_ends vs ≡ true
        → list_all or_ends (ended t vs) ≡ true
    ended_each true vs h = h
    ended_each false vs h = h

    pub each_passes : (vs : List (Value A)) → list_all p vs ≡ true
        → list_all is_single vs ≡ true → list_all or_ends (normal vs) ≡ true
    each_passes [] a s = refl
    each_passes (v ∷ vs) a s =
        let q = and_parts (p v) (list_all p vs) a in
        let r = and_parts (is_single v) (list_all is_single vs) s in
        ap (list_all or_ends) (normal_more v vs r.0)
        ∙ rw (or_passes v q.0, ended_each (wants v vs) (normal vs) (each_passes vs q.1 r.1)) refl

  -- ---- the changes that are left

  ended_leaves : (t : Bool) (vs : List (Value A)) (o : Terminal)
      → after_values (ended t vs) o ≡ after_values vs o
  ended_leaves true vs o = refl
  ended_leaves false vs o = refl

  pub normal_leaves : (vs : List (Value A)) (o : Terminal) → list_all is_single vs ≡ true
      → after_values (normal vs) o ≡ after_values vs o
  normal_leaves [] o s = refl
  normal_leaves (v ∷ vs) o s =
      let r = and_parts (is_single v) (list_all is_single vs) s in
      ap (λ x. after_values x o) (normal_more v vs r.0)
      ∙ ended_leaves (wants v vs) (normal vs) (after_value v o)
      ∙ normal_leaves vs (after_value v o) r.1
