-- Borrowed actions: their meaning, and the record of those that a sink was given.
use Rattle.std.specs.Prelude.{◌≡◌, ◌≢◌, ◌⊎◌, List, [], ◌∷◌, ◌++◌, map, true}
use Rattle.std.specs.List.{FoldsTo, flat_map, list_all}
use Rattle.std.specs.Str.{chars}
use Rattle.esc_values.specs.Clear.{is_clear, parts_of}
use Rattle.esc_sequences.specs.Csis.{sgr, unspecified}
use Rattle.esc_osc.specs.Reading.{meaning as command_meant}
use Rattle.esc_actions.specs.Values.{Value, control, csi, osc, print, value_of}
use Rattle.esc_actions.specs.declared.action.Action.{Action}
use Rattle.escape_stream.specs.declared.borrowed.ActionRef.{ActionRef}
use Rattle.escape_stream.specs.declared.borrowed.ActionRef.TheVariants.{Text, Print, Control, Sgr, Sequence, Command, Owned}

-- the meaning of a borrowed action: the values of one or more actions, in order
abbrev pub values_of : {A : Type 0} → ActionRef (Action A) → List (Value A)
values_of (Text t) = map print (chars t.now)
values_of (Print c) = print c ∷ []
values_of (Control code) = control code ∷ []
values_of (Sgr s) = csi (sgr s) ∷ []
values_of (Sequence params truncated final) = csi (unspecified params.now truncated final) ∷ []
values_of (Command t) = osc (command_meant (parts_of t.now)) ∷ []
values_of (Owned a) = value_of a ∷ []

-- a text has a character
abbrev pub IsSome : {T : Type 0} → ActionRef T → Type 0
IsSome (Text t) = t.now ≢ []
IsSome _ = Unit {0}

-- a text has no control of C0 or C1
abbrev pub IsClear : {T : Type 0} → ActionRef T → Type 0
IsClear (Text t) = list_all is_clear (chars t.now) ≡ true
IsClear _ = Unit {0}

-- the text that a borrowed action hands on; this says nothing about any other borrowed action
pub record HasClearText {T : Type 0} (r : ActionRef T) : Type 0 where
  -- it has a character
  pub some : IsSome r
  -- and no control of C0 or C1
  pub clear : IsClear r

-- p was given borrowed actions, one after another, that together mean vs, and became q
abbrev pub Gets : {S A : Type 0} → (S → ActionRef (Action A) → S → Type 0) → S → List (Value A) → S
    → Type 0
Gets {S} {A} takes p vs q =
    (rs : List (ActionRef (Action A))) × (flat_map values_of rs ≡ vs) × FoldsTo takes p rs q

-- p was given borrowed actions that together mean a prefix of vs, and became q
abbrev pub GetsSome : {S A : Type 0} → (S → ActionRef (Action A) → S → Type 0) → S
    → List (Value A) → S
    → Type 0
GetsSome {S} {A} takes p vs q =
    (prefix : List (Value A)) × (rest : List (Value A)) × (vs ≡ prefix ++ rest)
    × Gets takes p prefix q

-- p was given borrowed actions that together mean a prefix of vs. Then either the sink refused the
-- call with an action that means the next values, and became q; or the giver stopped by itself, at
-- q, which it does only if `own` holds.
abbrev pub Stops : {S A : Type 0} → Type 0 → (S → ActionRef (Action A) → S → Type 0)
    → (S → ActionRef (Action A) → S → Type 0) → S → List (Value A) → S
    → Type 0
Stops {S} {A} own takes refuses p vs q =
    (rs : List (ActionRef (Action A))) × (rest : List (Value A)) × (mid : S)
    × (vs ≡ flat_map values_of rs ++ rest) × FoldsTo takes p rs mid
    × ((own × (mid ≡ q)) ⊎ ((r : ActionRef (Action A)) × (later : List (Value A))
    × (rest ≡ values_of r ++ later) × refuses mid r q))

-- p may be given borrowed actions that together mean vs: after actions that mean a prefix of vs, it
-- may be given any action that means the next values, and no empty text
abbrev pub Awaits : {S A : Type 0} → (S → ActionRef (Action A) → Type 0)
    → (S → ActionRef (Action A) → S → Type 0) → S → List (Value A)
    → Type 0
Awaits {S} {A} may takes p vs =
    (rs : List (ActionRef (Action A))) (r : ActionRef (Action A)) (later : List (Value A)) (q : S)
    → IsSome r → vs ≡ flat_map values_of rs ++ (values_of r ++ later) → FoldsTo takes p rs q
    → may q r

-- a list of actions that grew by these values
abbrev pub HasGrown : {A : Type 0} → List (Action A) → List (Value A) → List (Action A) → Type 0
HasGrown old vs new = map value_of new ≡ map value_of old ++ vs
