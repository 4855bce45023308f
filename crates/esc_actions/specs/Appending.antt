-- A list with a value at its end; a character joins the characters before it.
use Rattle.std.specs.Prelude.{Bool, true, false, List, [], ◌∷◌, ◌++◌}
use Rattle.std.specs.Char.{encode_utf8}
use Rattle.esc_actions.specs.Values.{Value, print, string}

-- a character or a string of them
abbrev pub is_characters : {A : Type 0} → Value A → Bool
is_characters (print c) = true
is_characters (string t) = true
is_characters v = false

-- a value after another: a character joins a character or a string of them, as one string
abbrev pub joined_values : {A : Type 0} → Value A → Value A → List (Value A)
joined_values (print c) (print d) = string (encode_utf8 c ++ encode_utf8 d) ∷ []
joined_values (string t) (print d) = string (t ++ encode_utf8 d) ∷ []
joined_values v w = v ∷ w ∷ []

-- whether characters come last in a list
abbrev pub ends_in_characters : {A : Type 0} → List (Value A) → Bool
ends_in_characters [] = false
ends_in_characters (v ∷ []) = is_characters v
ends_in_characters (v ∷ u ∷ vs) = ends_in_characters (u ∷ vs)

-- a list with a value at its end
abbrev pub appended_list : {A : Type 0} → List (Value A) → Value A → List (Value A)
appended_list [] w = w ∷ []
appended_list (v ∷ []) w = joined_values v w
appended_list (v ∷ u ∷ vs) w = v ∷ appended_list (u ∷ vs) w

-- a list with these values at its end, each appended to the list that the ones before it gave
abbrev pub appended_all : {A : Type 0} → List (Value A) → List (Value A) → List (Value A)
appended_all us [] = us
appended_all us (v ∷ vs) = appended_all (appended_list us v) vs

-- a value and those after it; it takes in the characters that directly follow it
abbrev pub gathered_from : {A : Type 0} → Value A → List (Value A) → List (Value A)
gathered_from v [] = v ∷ []
gathered_from (print c) (print d ∷ vs) =
    gathered_from (string (encode_utf8 c ++ encode_utf8 d)) vs
gathered_from (string t) (print d ∷ vs) = gathered_from (string (t ++ encode_utf8 d)) vs
gathered_from v (w ∷ vs) = v ∷ gathered_from w vs

-- these values, with each run of characters as one string, and each string with the characters that
-- directly follow it as one string
abbrev pub gathered_values : {A : Type 0} → List (Value A) → List (Value A)
gathered_values [] = []
gathered_values (v ∷ vs) = gathered_from v vs
