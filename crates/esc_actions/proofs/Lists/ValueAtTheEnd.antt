-- A value at the end of a list.
use Rattle.std.proofs.Common.{◌≡◌, ◌≢◌, ℕ, true, false, List, [], ◌∷◌, ◌++◌, map, refl, ap, sym, ◌∙◌}
use Rattle.std.proofs.lemmas.List.{map-append}
use Rattle.esc_device.specs.declared.mode.DeviceControlMode.TheVariants as device
use Rattle.esc_actions.specs.Appending.{appended_list, ends_in_characters, is_characters, joined_values}
use Rattle.esc_actions.specs.Values.{Value, value_of, print, string}
use Rattle.esc_actions.specs.declared.action.Action.{Action}
use Rattle.esc_actions.specs.declared.action.Action.TheVariants as action

-- a value that is no character comes after the last value
apart : {A : Type 0} (v w : Value A) → is_characters v ≡ false → joined_values v w ≡ v ∷ w ∷ []
apart (print c) w h = absurd cc
apart (string t) w h = absurd cc
apart v w h = refl

pub others_come_last : {A : Type 0} (vs : List (Value A)) (w : Value A)
    → ends_in_characters vs ≡ false → appended_list vs w ≡ vs ++ w ∷ []
others_come_last [] w h = refl
others_come_last (v ∷ []) w h = apart v w h
others_come_last (v ∷ u ∷ vs) w h = ap (λ l. v ∷ l) (others_come_last (u ∷ vs) w h)

-- and so does a value that is no single character
alone : {A : Type 0} (v w : Value A) → ((d : ℕ) → w ≢ print d) → joined_values v w ≡ v ∷ w ∷ []
alone v (print d) h = absurd (h d refl)
alone (print c) w h = refl
alone (string t) w h = refl
alone v w h = refl

comes_last : {A : Type 0} (vs : List (Value A)) (w : Value A) → ((d : ℕ) → w ≢ print d)
    → appended_list vs w ≡ vs ++ w ∷ []
comes_last [] w h = refl
comes_last (v ∷ []) w h = alone v w h
comes_last (v ∷ u ∷ vs) w h = ap (λ l. v ∷ l) (comes_last (u ∷ vs) w h)

no_print : {A : Type 0} (x : Action A) → ((c : ℕ) → x ≢ action.Print c) → (d : ℕ)
    → value_of x ≢ print d
no_print (action.Print c) h d = absurd (h c refl)
no_print (action.DeviceControl (device.Enter m)) h d = λ e. absurd cc
no_print (action.DeviceControl device.Exit) h d = λ e. absurd cc
no_print (action.DeviceControl (device.Data b)) h d = λ e. absurd cc
no_print (action.DeviceControl (device.ShortDeviceControl s)) h d = λ e. absurd cc
no_print x h d = λ e. absurd cc

-- by the last
pub at_the_last : {A : Type 0} (xs : List (Action A)) (x : Action A) (w : Value A)
    → appended_list (map value_of (xs ++ x ∷ [])) w ≡ map value_of xs
    ++ joined_values (value_of x) w
at_the_last [] x w = refl
at_the_last (y ∷ []) x w = refl
at_the_last (y ∷ z ∷ xs) x w = ap (λ l. value_of y ∷ l) (at_the_last (z ∷ xs) x w)

pub ends_in : {A : Type 0} (xs : List (Action A)) (x : Action A)
    → ends_in_characters (map value_of (xs ++ x ∷ [])) ≡ is_characters (value_of x)
ends_in [] x = refl
ends_in (y ∷ []) x = refl
ends_in (y ∷ z ∷ xs) x = ends_in (z ∷ xs) x

-- the same for lists of actions
pub joined_said : {A : Type 0} (was now xs : List (Action A)) (x y : Action A) (w : Value A)
    → was ≡ xs ++ x ∷ [] → now ≡ xs ++ y ∷ []
    → value_of y ∷ [] ≡ joined_values (value_of x) w → map value_of now
    ≡ appended_list (map value_of was) w
joined_said was now xs x y w h k e =
    ap (map value_of) k ∙ map-append value_of xs (y ∷ []) ∙ ap (λ l. map value_of xs ++ l) e
    ∙ sym (at_the_last xs x w)
    ∙ ap (λ l. appended_list (map value_of l) w) (sym h)

pub ends_said : {A : Type 0} (was xs : List (Action A)) (x : Action A) → was ≡ xs ++ x ∷ []
    → is_characters (value_of x) ≡ false
    → ends_in_characters (map value_of was) ≡ false
ends_said was xs x h e = ap (λ l. ends_in_characters (map value_of l)) h ∙ ends_in xs x ∙ e

pub pushed_after_others : {A : Type 0} (was now : List (Action A)) (x : Action A)
    → now ≡ was ++ x ∷ [] → ends_in_characters (map value_of was) ≡ false
    → map value_of now ≡ appended_list (map value_of was) (value_of x)
pushed_after_others was now x k e = ap (map value_of) k ∙ map-append value_of was (x ∷ [])
    ∙ sym (others_come_last (map value_of was) (value_of x) e)

pub pushed_no_print : {A : Type 0} (was now : List (Action A)) (x : Action A) → now ≡ was ++ x ∷ []
    → ((c : ℕ) → x ≢ action.Print c)
    → map value_of now ≡ appended_list (map value_of was) (value_of x)
pushed_no_print was now x k e =
    ap (map value_of) k ∙ map-append value_of was (x ∷ [])
    ∙ sym (comes_last (map value_of was) (value_of x) (no_print x e))
