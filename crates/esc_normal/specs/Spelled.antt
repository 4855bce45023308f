-- The effect of actions on a text.
use Rattle.std.specs.Prelude.{◌≡◌, ◌++◌, true}
use Rattle.esc_actions.specs.Texts.{has_text, is_string, text_after}
use Rattle.esc_actions.specs.Values.{value_of}
use Rattle.esc_actions.specs.declared.action.Action.{Action}
use Rattle.esc_normal.specs.declared.spell.TextSink.{TextSink}
use Rattle.fallible_alloc.specs.Refusals.{Refused}

-- the effect of an action on a text
abbrev pub Adds : {A : Type 0} → TextSink A → Action A → TextSink A → Type 0
Adds p a q = (q.text ≡ p.text ++ text_after p.follows_string (value_of a))
    × (q.follows_string ≡ is_string (value_of a))

-- an action that has a text is refused if memory is
abbrev pub Denies : {A : Type 0} → TextSink A → Action A → TextSink A → Type 0
Denies {A} p a q = has_text (value_of a) ≡ true → Refused A
