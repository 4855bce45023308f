-- The values that are written for values are written again as they are.
use Rattle.std.proofs.Common.{ℕ, ◌≡◌, ◌⊎◌, inl, inr, Bool, true, false, not, if◌then◌else◌, ◌<◌, arith, List, [], ◌∷◌, ◌++◌, map, Option, None, Some, refl, sym, ap, ◌∙◌, subst}
use Rattle.std.specs.List.{list_all}
use Rattle.std.proofs.lemmas.Bool.{and_parts, true≢false}
use Rattle.unicode_visibility.proofs.Ranges.{low_plain}
use Rattle.unicode_visibility.specs.Characters.{is_deceiving, number_text}
use Rattle.unicode_visibility.specs.Following.{may_follow}
use Rattle.esc_actions.specs.Texts.{is_string, normal}
use Rattle.esc_actions.specs.Values.{Value, print, string, control, esc, csi, osc, kitty, sixel, termcap, short, enter, datum, exit}
use Rattle.esc_actions.specs.declared.control_code.ControlCode.{ControlCode}
use Rattle.esc_actions.specs.declared.control_code.ControlCode.TheVariants.{CarriageReturn}
use Rattle.esc_filter.specs.Characters.{character_of, each_in_guard, in_guard, in_return, in_values, replacement_values, is_return, keeps_all, last_after}
use Rattle.esc_filter.specs.declared.guard.Guard.{Guard}
use Rattle.esc_filter.specs.declared.returns.Returns.{Returns}
use Rattle.esc_filter.specs.declared.returns.Returns.TheVariants as way
use Rattle.esc_filter.specs.declared.unicode.Unicode.{Unicode}
use Rattle.esc_filter.specs.declared.unicode.Unicode.TheVariants.{Drop, Join, Keep, Show}
use Rattle.esc_filter.proofs.Output.DeceivingCharacters.{ascii_low, is_ascii, kinds, number_ascii, plain_one}
use Rattle.esc_idempotent.proofs.Normals.{ended, normal_more, wants}
use Rattle.esc_idempotent.proofs.Singles.{is_single}

-- each is written as it is after those before it
abbrev pub AreSteady : {A : Type 0} → Guard → Option ℕ → List (Value A) → Type 0
AreSteady u b [] = Unit {0}
AreSteady u b (v ∷ vs) = (in_guard u b v ≡ v ∷ []) × AreSteady u (character_of v) vs

-- no character, and no carriage return
abbrev pub is_still : {A : Type 0} → Value A → Bool
is_still (print c) = false
is_still (string t) = false
is_still (control c) = not (is_return c)
is_still _ = true

return_is : (c : ControlCode) → is_return c ≡ true → c ≡ CarriageReturn
return_is CarriageReturn e = refl
return_is _ e = absurd (true≢false (sym e))

no_return : (t : Bool) → not t ≡ true → t ≡ false
no_return true h = absurd (true≢false (sym h))
no_return false h = refl

string_character : {A : Type 0} (v : Value A) → is_string v ≡ true → character_of v ≡ None
string_character (print c) h = absurd (true≢false (sym h))
string_character (string t) h = refl
string_character (control c) h = refl
string_character (esc e) h = refl
string_character (csi c) h = refl
string_character (osc c) h = refl
string_character (kitty i) h = refl
string_character (sixel s) h = refl
string_character (termcap ns) h = refl
string_character (short s) h = refl
string_character (enter e) h = refl
string_character (datum b) h = refl
string_character exit h = refl

low : (x : ℕ) → x < 128 → x < 0xad
low x h = omega (arith, h)

module _ (A : Type 0) (u : Guard) where
  ascii_steady : (b : Option ℕ) (xs : List ℕ) → list_all is_ascii xs ≡ true
      → AreSteady {A = A} u b (map print xs)
  ascii_steady b [] h = tt
  ascii_steady b (x ∷ xs) h =
      let q = and_parts (is_ascii x) (list_all is_ascii xs) h in
      (plain_one u b x (low_plain x (low x (ascii_low x q.0))), ascii_steady (Some x) xs q.1)

  -- a character that deceives
  instead_steady : (k : Unicode) (b : Option ℕ) (c : ℕ) → u.characters ≡ k
      → is_deceiving c ≡ true → AreSteady {A = A} u b (replacement_values k b c)
  instead_steady Keep b c e d = (rw (d, e) refl, tt)
  instead_steady Show b c e d = ascii_steady b (number_text c) (number_ascii c)
  instead_steady Drop b c e d = tt
  instead_steady Join b c e d = by (may_follow b c) refl
    where
      by : (t : Bool) → may_follow b c ≡ t
          → AreSteady {A = A} u b (if t then print c ∷ [] else map print (number_text c))
      by true f = (rw (d, e, f) refl, tt)
      by false f = ascii_steady b (number_text c) (number_ascii c)

  character_steady : (b : Option ℕ) (c : ℕ) (t : Bool) → is_deceiving c ≡ t
      → AreSteady {A = A} u b (if t then replacement_values u.characters b c else print c ∷ [])
  character_steady b c true d = instead_steady u.characters b c refl d
  character_steady b c false d = (rw d refl, tt)

  return_steady : (r : Returns) (b : Option ℕ) → u.returns ≡ r → AreSteady {A = A} u b (in_return r)
  return_steady way.Keep b e = (rw e refl, tt)
  return_steady way.Show b e = ascii_steady b (0x5e ∷ 0x4d ∷ []) refl
  return_steady way.Drop b e = tt

  control_steady : (b : Option ℕ) (c : ControlCode) (t : Bool) → is_return c ≡ t
      → AreSteady {A = A} u b (if t then in_return u.returns else control c ∷ [])
  control_steady b c true d = return_steady u.returns b refl
  control_steady b c false d = (rw d refl, tt)

module _ {A : Type 0} (u : Guard) where
  steady_each : (b : Option ℕ) (vs : List (Value A)) → AreSteady u b vs
      → each_in_guard u b vs ≡ vs
  steady_each b [] h = refl
  steady_each b (v ∷ vs) (e, h) =
      ap (λ w. w ++ each_in_guard u (last_after b w) vs) e
      ∙ ap (λ z. v ∷ z) (steady_each (character_of v) vs h)

  -- ---- lists of them

  pub steady_both : (b : Option ℕ) (vs ws : List (Value A)) → AreSteady u b vs
      → AreSteady u (last_after b vs) ws → AreSteady u b (vs ++ ws)
  steady_both b [] ws h k = k
  steady_both b (v ∷ vs) ws (e, h) k = (e, steady_both (character_of v) vs ws h k)

  first_steady : (b : Option ℕ) (vs ws : List (Value A)) → AreSteady u b (vs ++ ws)
      → AreSteady u b vs
  first_steady b [] ws h = tt
  first_steady b (v ∷ vs) ws (e, h) = (e, first_steady (character_of v) vs ws h)

  still_steady : (b : Option ℕ) (vs : List (Value A)) → list_all is_still vs ≡ true
      → AreSteady u b vs
  still_steady b [] h = tt
  still_steady b (v ∷ vs) h =
      let q = and_parts (is_still v) (list_all is_still vs) h in
      (by v q.0, still_steady (character_of v) vs q.1)
    where
      by : (v : Value A) → is_still v ≡ true → in_guard u b v ≡ v ∷ []
      by (print c) k = absurd (true≢false (sym k))
      by (string t) k = absurd (true≢false (sym k))
      by (control c) k = rw (no_return (is_return c) k) refl
      by (esc e) k = refl
      by (csi c) k = refl
      by (osc c) k = refl
      by (kitty i) k = refl
      by (sixel s) k = refl
      by (termcap ns) k = refl
      by (short s) k = refl
      by (enter e) k = refl
      by (datum x) k = refl
      by exit k = refl

  -- ---- the values that are written for values

  value_steady : (b : Option ℕ) (v : Value A) → AreSteady u b (in_guard u b v)
  value_steady b v = by (kinds v)
    where
      by : ((c : ℕ) × (v ≡ print c)) ⊎ (((c : ControlCode) × (v ≡ control c))
          ⊎ ((w : Guard) (l : Option ℕ) → in_guard w l v ≡ v ∷ [])) → AreSteady u b (in_guard u b v)
      by (inl (c, e)) =
          subst (λ x. AreSteady u b (in_guard u b x)) (sym e)
          (character_steady A u b c (is_deceiving c) refl)
      by (inr (inl (c, e))) =
          subst (λ x. AreSteady u b (in_guard u b x)) (sym e)
          (control_steady A u b c (is_return c) refl)
      by (inr (inr f)) = subst (AreSteady u b) (sym (f u b)) (f u b, tt)

  each_steady : (b : Option ℕ) (vs : List (Value A)) → AreSteady u b (each_in_guard u b vs)
  each_steady b [] = tt
  each_steady b (v ∷ vs) =
      let x = in_guard u b v in
      let l = last_after b x in
      steady_both b x (each_in_guard u l vs) (value_steady b v) (each_steady l vs)

  -- ---- normal lists

  ended_steady : (v : Value A) (t : Bool) (vs : List (Value A))
      → (t ≡ true → character_of v ≡ None) → AreSteady u (character_of v) vs
      → AreSteady u (character_of v) (ended t vs)
  ended_steady v true vs f h = (refl, subst (λ b. AreSteady u b vs) (f refl) h)
  ended_steady v false vs f h = h

  normal_steady : (b : Option ℕ) (vs : List (Value A)) → list_all is_single vs ≡ true
      → AreSteady u b vs → AreSteady u b (normal vs)
  normal_steady b [] s h = tt
  normal_steady b (v ∷ vs) s (e, h) =
      let r = and_parts (is_single v) (list_all is_single vs) s in
      subst (AreSteady u b) (sym (normal_more v vs r.0)) (
        e,
        ended_steady v (wants v vs) (normal vs)
            (λ w. string_character v (and_parts (is_string v) _ w).0)
            (normal_steady (character_of v) vs r.1 h),
      )

  -- ---- if all is kept, too

  abbrev pub IsSteady : List (Value A) → Type 0
  IsSteady vs = (keeps_all u ≡ true) ⊎ AreSteady u None vs

  pub steady_is : (vs : List (Value A)) → IsSteady vs → in_values u vs ≡ vs
  steady_is vs (inl e) = rw e refl
  steady_is vs (inr h) = by (keeps_all u)
    where
      by : (t : Bool) → (if t then vs else each_in_guard u None vs) ≡ vs
      by true = refl
      by false = steady_each None vs h

  pub written_steady : (vs : List (Value A)) → IsSteady (in_values u vs)
  written_steady vs = by (keeps_all u) refl
    where
      by : (t : Bool) → keeps_all u ≡ t → IsSteady (if t then vs else each_in_guard u None vs)
      by true e = inl e
      by false e = inr (each_steady None vs)

  pub steady_more : (vs ws : List (Value A)) → IsSteady vs → list_all is_still ws ≡ true
      → IsSteady (vs ++ ws)
  steady_more vs ws (inl e) k = inl e
  steady_more vs ws (inr h) k =
      inr (steady_both None vs ws h (still_steady (last_after None vs) ws k))

  pub steady_first : (vs ws : List (Value A)) → IsSteady (vs ++ ws) → IsSteady vs
  steady_first vs ws (inl e) = inl e
  steady_first vs ws (inr h) = inr (first_steady None vs ws h)

  pub steady_normal : (vs : List (Value A)) → list_all is_single vs ≡ true → IsSteady vs
      → IsSteady (normal vs)
  steady_normal vs s (inl e) = inl e
  steady_normal vs s (inr h) = inr (normal_steady None vs s h)
