-- The promises about the text of a list.
use Rattle.std.specs.Borrow.{Bor}
use Rattle.std.specs.Prelude.{◌≡◌, ◌<◌, ◌++◌, ℕ, Bool, true, List, length, map, Result, IfOk, OnErr}
use Rattle.std.specs.List.{list_all}
use Rattle.esc_actions.specs.Meaning.{meaning}
use Rattle.esc_actions.specs.Texts.{has_text, list_text, normal, texts_after}
use Rattle.esc_actions.specs.Values.{Value, value_of}
use Rattle.esc_actions.specs.declared.action.Action.{Action}
use Rattle.fallible_alloc.specs.Refusals.{Refused}

-- the text t of these values means their normal list, and is the text of that list too
abbrev pub ReadsBack : {A : Type 0} → List (Value A) → List ℕ → Type 0
ReadsBack vs t = (meaning t ≡ normal vs) × (list_text (normal vs) ≡ t)

-- each of these actions has a text
abbrev pub HaveTexts : {A : Type 0} → List (Action A) → Type 0
HaveTexts actions = list_all (λ a. has_text (value_of a)) actions ≡ true

-- The promises of a call that appends the text of the first of these actions, of at least one, to
-- the text `had`: it returns the actions after them, and whether they come directly after a string
-- action.
pub record AppendsFirst {A E : Type 0} (had : List ℕ) (follows : Bool) (actions : List (Action A))
    (result : Result (Bor (List (Action A)) × Bool) E) (new : List ℕ) : Type 0 where
  -- with the text of those that are left this is the text of all
  pub text : IfOk result (λ r. new ++ texts_after r.1 (map value_of r.0.now)
      ≡ had ++ texts_after follows (map value_of actions))
  -- fewer are left
  pub less : IfOk result (λ r. length r.0.now < length actions)
  -- if each had a text, each of the actions that are left has one
  pub left : HaveTexts actions → IfOk result (λ r. HaveTexts r.0.now)
  -- and an error says that memory was refused
  pub refused : HaveTexts actions → OnErr result (Refused A)
