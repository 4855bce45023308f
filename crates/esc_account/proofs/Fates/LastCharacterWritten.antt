-- The character that is written last of a value.
use Rattle.std.proofs.Common.{◌≡◌, ℕ, Bool, true, false, if◌then◌else◌, [], ◌∷◌, map, Option, None, Some, refl, sym}
use Rattle.unicode_visibility.specs.Characters.{is_deceiving, number_text}
use Rattle.unicode_visibility.specs.Following.{may_follow}
use Rattle.esc_actions.specs.Values.{Value, print, string, control, esc, csi, osc, kitty, sixel, termcap, short, enter, datum, exit}
use Rattle.esc_actions.specs.declared.control_code.ControlCode.{ControlCode}
use Rattle.esc_filter.proofs.Output.DeceivingCharacters.{number_ends}
use Rattle.esc_filter.specs.Characters.{in_guard, in_return, replacement_values, is_return, last_after}
use Rattle.esc_filter.specs.declared.guard.Guard.{Guard}
use Rattle.esc_filter.specs.declared.returns.Returns.{Returns}
use Rattle.esc_filter.specs.declared.returns.Returns.TheVariants as way
use Rattle.esc_filter.specs.declared.unicode.Unicode.{Unicode}
use Rattle.esc_filter.specs.declared.unicode.Unicode.TheVariants.{Drop, Join, Keep, Show}
use Rattle.esc_account.specs.Rules.{last_instead, last_return, last_written}

module _ (A : Type 0) where
  joined_last : (b : Option ℕ) (c : ℕ) (f : Bool)
      → (if f then Some c else Some 0x3e)
      ≡ last_after {A = A} b (if f then print c ∷ [] else map print (number_text c))
  joined_last b c true = refl
  joined_last b c false = sym (number_ends A b c)

  character_last : (k : Unicode) (b : Option ℕ) (c : ℕ) (d : Bool)
      → (if d then last_instead k b c else Some c)
      ≡ last_after {A = A} b (if d then replacement_values k b c else print c ∷ [])
  character_last k b c false = refl
  character_last Keep b c true = refl
  character_last Join b c true = joined_last b c (may_follow b c)
  character_last Show b c true = sym (number_ends A b c)
  character_last Drop b c true = refl

  return_last : (r : Returns) (b : Option ℕ) (c : ControlCode) (d : Bool)
      → (if d then last_return r b else None)
      ≡ last_after {A = A} b (if d then in_return r else control c ∷ [])
  return_last r b c false = refl
  return_last way.Keep b c true = refl
  return_last way.Show b c true = refl
  return_last way.Drop b c true = refl

  pub as_written : (u : Guard) (b : Option ℕ) (v : Value A)
      → last_written u b v ≡ last_after b (in_guard u b v)
  as_written u b (print c) = character_last u.characters b c (is_deceiving c)
  as_written u b (control c) = return_last u.returns b c (is_return c)
  as_written u b (string t) = refl
  as_written u b (esc e) = refl
  as_written u b (csi c) = refl
  as_written u b (osc c) = refl
  as_written u b (kitty i) = refl
  as_written u b (sixel s) = refl
  as_written u b (termcap ns) = refl
  as_written u b (short s) = refl
  as_written u b (enter e) = refl
  as_written u b (datum b') = refl
  as_written u b exit = refl
