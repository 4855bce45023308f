-- A sink that keeps actions, but of data the first byte alone.
use Rattle.std.specs.Prelude.{◌≡◌, ◌&&◌, ◌||◌, if◌then◌else◌, List, [], ◌∷◌, ◌++◌}
use Rattle.std.specs.List.{FoldsTo}
use Rattle.esc_actions.specs.Values.{Value, value_of}
use Rattle.esc_actions.specs.Writable.{EmittedAreWritable}
use Rattle.esc_actions.specs.declared.action.Action.{Action}
use Rattle.esc_parse.specs.Given.{At}
use Rattle.esc_account.specs.Brief.{is_datum}
use Rattle.esc_account.specs.declared.brief.Brief.{Brief}

-- an action makes q of p
abbrev pub Keeps : {A : Type 0} → Brief A → Action A → Brief A → Type 0
Keeps p a q = (q.actions.items
    ≡ p.actions.items ++ (if p.has_datum && is_datum (value_of a) then [] else a ∷ []))
    × (q.has_datum ≡ (p.has_datum || is_datum (value_of a)))

-- actions made q of p whose values a parser hands out
abbrev pub TookHandedOut : {A S : Type 0} → (S → Action A → S → Type 0) → S → S → Type 0
TookHandedOut {A} takes p q =
    (vs : List (Value A)) × EmittedAreWritable vs × FoldsTo (At value_of takes) p vs q
