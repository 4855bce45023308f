-- Texts that grow by one value after another.
use Rattle.std.specs.Prelude.{Bool, List, [], ◌∷◌}
use Rattle.esc_actions.specs.Texts.{is_string}
use Rattle.esc_actions.specs.Values.{Value}

-- Whether a string action comes last; `follows` says whether one came before these values. If a
-- string terminator comes next, it writes nothing then.
abbrev pub ends_in_string : {A : Type 0} → Bool → List (Value A) → Bool
ends_in_string follows [] = follows
ends_in_string follows (v ∷ vs) = ends_in_string (is_string v) vs
