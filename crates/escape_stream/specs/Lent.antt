-- The effect of an action on a sink of borrowed actions. A run of characters is handed out at once,
-- so a character may be begun, and handed out with those after it.
use Rattle.std.specs.Prelude.{ℕ, ◌≡◌, ◌⊎◌, [], ◌∷◌, ◌++◌, map}
use Rattle.esc_actions.specs.Values.{print, value_of}
use Rattle.esc_actions.specs.declared.action.Action.{Action}
use Rattle.escape_stream.specs.Borrowed.{values_of}
use Rattle.escape_stream.specs.declared.borrowed.ActionRef.{ActionRef}
use Rattle.escape_stream.specs.declared.borrow_adapter.BorrowAdapter.{BorrowAdapter}

-- r is the characters that were begun, and the action after them
abbrev pub Ends : {S A : Type 0} → BorrowAdapter S → Action A → ActionRef (Action A) → Type 0
Ends p a r = values_of r ≡ map print p.begun ++ value_of a ∷ []

-- the action is a character that is begun
abbrev pub Begins : {S A : Type 0} → BorrowAdapter S → Action A → BorrowAdapter S → Type 0
Begins p a q = (c : ℕ) × (value_of a ≡ print c) × (q.begun ≡ p.begun ++ c ∷ []) × (q.sink ≡ p.sink)

-- the effect of an action on a sink: it is begun, or handed out with the run that was begun
abbrev pub Lends : {S A : Type 0} → (S → ActionRef (Action A) → S → Type 0) → BorrowAdapter S
    → Action A
    → BorrowAdapter S
    → Type 0
Lends {S} {A} takes p a q =
    Begins p a q ⊎ ((q.begun ≡ []) × (r : ActionRef (Action A)) × Ends p a r
    × takes p.sink r q.sink)

-- the sink that a refused action may leave
abbrev pub LendsNot : {S A : Type 0} → (S → ActionRef (Action A) → S → Type 0) → BorrowAdapter S
    → Action A → BorrowAdapter S
    → Type 0
LendsNot {S} {A} refuses p a q =
    (r : ActionRef (Action A)) × Ends p a r × refuses p.sink r q.sink

-- the next action may be this one
abbrev pub MayLend : {S A : Type 0} → (S → ActionRef (Action A) → Type 0) → BorrowAdapter S
    → Action A
    → Type 0
MayLend {S} {A} may p a = (r : ActionRef (Action A)) → Ends p a r → may p.sink r
