-- A character that deceives is written only if it belongs to the one before it.
use Rattle.std.proofs.Common.{◌≡◌, ℕ, ◌<◌, Bool, true, false, not, ◌&&◌, ◌||◌, if◌then◌else◌, List, [], ◌∷◌, ◌++◌, map, Option, None, Some, refl, sym, ap, ◌∙◌, arith}
use Rattle.std.specs.List.{list_all}
use Rattle.std.proofs.lemmas.Bool.{and_parts, true≢false}
use Rattle.unicode_visibility.proofs.Ranges.{low_plain}
use Rattle.unicode_visibility.specs.Characters.{is_deceiving, number_text}
use Rattle.unicode_visibility.specs.Following.{may_follow}
use Rattle.esc_actions.specs.Values.{Value, print, string, control, esc, csi, osc, kitty, sixel, termcap, short, enter, datum, exit}
use Rattle.esc_actions.specs.declared.control_code.ControlCode.{ControlCode}
use Rattle.esc_filter.proofs.Output.DeceivingCharacters.{ascii_low, is_ascii, number_ascii}
use Rattle.esc_filter.specs.Characters.{character_of, each_in_guard, in_guard, in_return, in_values, replacement_values, is_return, keeps_characters, keeps_returns, last_after, some_strays, strays}
use Rattle.esc_filter.specs.declared.guard.Guard.{Guard}
use Rattle.esc_filter.specs.declared.returns.Returns.{Returns}
use Rattle.esc_filter.specs.declared.returns.Returns.TheVariants as way
use Rattle.esc_filter.specs.declared.unicode.Unicode.{Unicode}
use Rattle.esc_filter.specs.declared.unicode.Unicode.TheVariants.{Drop, Join, Keep, Show}

below : (x : ℕ) → x < 128 → x < 0xad
below x h = omega (arith, h)

module _ (A : Type 0) where
  -- the same for ASCII
  ascii_stays : (b : Option ℕ) (xs : List ℕ) → list_all is_ascii xs ≡ true
      → some_strays {A = A} b (map print xs) ≡ false
  ascii_stays b [] h = refl
  ascii_stays b (x ∷ xs) h =
      let k = and_parts (is_ascii x) (list_all is_ascii xs) h in
      rw (low_plain x (below x (ascii_low x k.0))) (ascii_stays (Some x) xs k.1)

  -- one after another
  both_stay : (b : Option ℕ) (vs ws : List (Value A)) → some_strays b vs ≡ false
      → some_strays (last_after b vs) ws ≡ false → some_strays b (vs ++ ws) ≡ false
  both_stay b [] ws h k = k
  both_stay b (v ∷ vs) ws h k =
      by (strays b v) h (λ g. both_stay (character_of v) vs ws g k)
    where
      by : (t : Bool) → (t || some_strays (character_of v) vs) ≡ false
          → (some_strays (character_of v) vs ≡ false
          → some_strays (character_of v) (vs ++ ws) ≡ false)
          → (t || some_strays (character_of v) (vs ++ ws)) ≡ false
      by true g rest = absurd cc
      by false g rest = rest g

  alone : (x : Bool) → x ≡ false → (x || false) ≡ false
  alone true e = absurd cc
  alone false e = refl

  -- the values that are written in place of a character
  joined_stays : (b : Option ℕ) (c : ℕ) (d f : Bool) → is_deceiving c ≡ d → may_follow b c ≡ f
      → some_strays {A = A} b (if f then print c ∷ [] else map print (number_text c)) ≡ false
  joined_stays b c d true e g = alone (is_deceiving c && not (may_follow b c))
      (rw g (no (is_deceiving c)))
    where
      no : (x : Bool) → (x && false) ≡ false
      no true = refl
      no false = refl
  joined_stays b c d false e g = ascii_stays b (number_text c) (number_ascii c)

  character_stays : (k : Unicode) (b : Option ℕ) (c : ℕ) (d : Bool) → is_deceiving c ≡ d
      → keeps_characters k ≡ false
      → some_strays {A = A} b (if d then replacement_values k b c else print c ∷ []) ≡ false
  character_stays k b c false e h = rw e refl
  character_stays Keep b c true e h = absurd (true≢false h)
  character_stays Join b c true e h = joined_stays b c true (may_follow b c) e refl
  character_stays Show b c true e h = ascii_stays b (number_text c) (number_ascii c)
  character_stays Drop b c true e h = refl

  return_stays : (r : Returns) (b : Option ℕ) (c : ControlCode) (d : Bool)
      → some_strays {A = A} b (if d then in_return r else control c ∷ []) ≡ false
  return_stays r b c false = refl
  return_stays way.Keep b c true = refl
  return_stays way.Show b c true = ascii_stays b (0x5e ∷ 0x4d ∷ []) refl
  return_stays way.Drop b c true = refl

  value_stays : (u : Guard) (b : Option ℕ) (v : Value A) → keeps_characters u.characters ≡ false
      → some_strays b (in_guard u b v) ≡ false
  value_stays u b (print c) h = character_stays u.characters b c (is_deceiving c) refl h
  value_stays u b (control c) h = return_stays u.returns b c (is_return c)
  value_stays u b (string t) h = refl
  value_stays u b (esc e) h = refl
  value_stays u b (csi c) h = refl
  value_stays u b (osc c) h = refl
  value_stays u b (kitty i) h = refl
  value_stays u b (sixel s) h = refl
  value_stays u b (termcap ns) h = refl
  value_stays u b (short s) h = refl
  value_stays u b (enter e) h = refl
  value_stays u b (datum a) h = refl
  value_stays u b exit h = refl

  each_stays : (u : Guard) (b : Option ℕ) (vs : List (Value A))
      → keeps_characters u.characters ≡ false → some_strays b (each_in_guard u b vs) ≡ false
  each_stays u b [] h = refl
  each_stays u b (v ∷ vs) h =
      let l = last_after b (in_guard u b v) in
      both_stay b (in_guard u b v) (each_in_guard u l vs) (value_stays u b v h)
      (each_stays u l vs h)

  pub nothing_strays : (u : Guard) (vs : List (Value A)) → keeps_characters u.characters ≡ false
      → some_strays None (in_values u vs) ≡ false
  nothing_strays u vs h =
      ap (λ t. some_strays None (if t && keeps_returns u.returns then vs
      else each_in_guard u None vs)) h ∙ each_stays u None vs h
