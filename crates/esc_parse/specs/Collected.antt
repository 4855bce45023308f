-- A list of actions takes an action: it is appended.
use Rattle.std.specs.Prelude.{◌≡◌, List, [], ◌∷◌, ◌++◌, map}
use Rattle.esc_actions.specs.Values.{Value, value_of}
use Rattle.esc_actions.specs.declared.action.Action.{Action}
use Rattle.esc_parse.specs.declared.sink.Collect.{Collect}

-- the effect of an action on a list
abbrev pub Gathers : {A : Type 0} → Collect A → Action A → Collect A → Type 0
Gathers p a q = q.actions.items ≡ p.actions.items ++ a ∷ []

-- actions of these values came after those that there were
abbrev pub Adds : {A : Type 0} → List (Action A) → List (Value A) → List (Action A) → Type 0
Adds {A} had vs all = (more : List (Action A)) × (all ≡ had ++ more) × (map value_of more ≡ vs)

-- actions of a prefix of these values did
abbrev pub AddsSome : {A : Type 0} → List (Action A) → List (Value A) → List (Action A) → Type 0
AddsSome {A} had vs all =
    (prefix : List (Value A)) × (rest : List (Value A)) × (vs ≡ prefix ++ rest)
    × Adds had prefix all
