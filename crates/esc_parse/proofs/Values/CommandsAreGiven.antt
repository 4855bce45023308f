-- A command that a performer gives its sink.
use Rattle.std.proofs.Common.{◌≡◌, ℕ, Bool, true, List, [], ◌∷◌, map, MatchResult, Option, Result, Ok, Err, refl, inr}
use Rattle.std.specs.List.{FoldsTo}
use Rattle.esc_frame.specs.Events.{Event, Receives, Takes}
use Rattle.esc_values.specs.declared.csi_param.CsiParam.{CsiParam}
use Rattle.esc_sequences.specs.Csis.{csi_of}
use Rattle.esc_frame.specs.Events.Event.{CsiDispatch, OscDispatch}
use Rattle.esc_osc.specs.Reading.{meaning as command_meant}
use Rattle.esc_parse.specs.Fed.{Hooks}
use Rattle.esc_parse.specs.Given.{At, StopsAt as StopsGiven}
use Rattle.esc_actions.specs.Values.{Mode, Value, mode_after, csi, event_values, osc, value_of, wants_memory}
use Rattle.esc_actions.specs.declared.action.Action.{Action}
use Rattle.esc_parse.specs.declared.performer.Performer.{Performer}
use Rattle.esc_parse.proofs.Lists.StepsOverLists.{StopsAt-weaker}
use Rattle.fallible_alloc.specs.Refusals.{Refused}

-- the effect of an event on a performer, and the ways in which it stops there
abbrev Performs : {S A : Type 0} → (S → Action A → S → Type 0) → Performer S A → Event
    → Performer S A → Type 0
Performs takes p e q = (limit : Option ℕ) (m : Mode) → Hooks limit p.unfinished m
    → Hooks limit q.unfinished (mode_after m e)
    × FoldsTo (At value_of takes) p.sink (event_values limit m e) q.sink

abbrev Stops : {S A : Type 0} → (S → Action A → S → Type 0) → (S → Action A → S → Type 0)
    → Performer S A → Event → Performer S A → Type 0
Stops {S} {A} takes refuses p e q =
    (limit : Option ℕ) (m : Mode) → Hooks limit p.unfinished m
    → StopsGiven ((wants_memory e ≡ true) × Refused A) (At value_of takes)
    (At value_of refuses) p.sink (event_values limit m e) q.sink

-- the same for an event that wants memory
memory_stopped : {S A : Type 0} (takes refuses : S → Action A → S → Type 0) (p q : S)
    (vs : List (Value A))
    → StopsGiven (Refused A) (At value_of takes) (At value_of refuses) p vs q
    → StopsGiven ((true ≡ true) × Refused A) (At value_of takes) (At value_of refuses) p vs q
memory_stopped {S} {A} takes refuses p q vs h =
    StopsAt-weaker (At value_of takes) (At value_of refuses) ((true ≡ true) × Refused A)
    (Refused A) p vs q (λ r. (refl, r)) h

pub text_taken : {S A E : Type 0} (own : Type 0) (takes refuses : S → Action A → S → Type 0)
    (r : Result (Unit {0}) E) (p : Performer S A) (s : S)
    (ps : List (List ℕ))
    → MatchResult r (λ _. FoldsTo (At value_of takes) p.sink (osc (command_meant ps) ∷ []) s)
    (λ _. StopsGiven (Refused A) (At value_of takes) (At value_of refuses) p.sink
    (osc (command_meant ps) ∷ []) s)
    → Takes own (Performs takes) (Stops takes refuses) r p (OscDispatch ps ∷ [])
    (record p { sink = s })
text_taken own takes refuses (Ok t) p s ps h = (record p { sink = s }, (λ limit m k. (k, h)), refl)
text_taken own takes refuses (Err e) p s ps h = (
  [],
  OscDispatch ps ∷ [],
  refl,
  inr (
    p,
    OscDispatch ps,
    [],
    refl,
    refl,
    λ limit m k.
        memory_stopped takes refuses p.sink s (osc (command_meant ps) ∷ []) h,
  ),
)

-- the same of its parts
pub text_heard : {S A E : Type 0} (takes refuses : S → Action A → S → Type 0)
    (r : Result (Unit {0}) E) (p : Performer S A) (s : S)
    (ps : List (List ℕ))
    → MatchResult r (λ _. FoldsTo (At value_of takes) p.sink (osc (command_meant ps) ∷ []) s)
    (λ _. StopsGiven (Refused A) (At value_of takes) (At value_of refuses) p.sink
    (osc (command_meant ps) ∷ []) s)
    → Receives (Performs takes) (Stops takes refuses) r p (OscDispatch ps) (record p { sink = s })
text_heard takes refuses (Ok t) p s ps h = λ limit m k. (k, h)
text_heard takes refuses (Err e) p s ps h = λ limit m k.
    memory_stopped takes refuses p.sink s (osc (command_meant ps) ∷ []) h

-- a control sequence
pub sequence_heard : {S A E : Type 0} (takes refuses : S → Action A → S → Type 0)
    (r : Result (Unit {0}) E) (p : Performer S A)
    (s : S) (ps : List CsiParam) (more : Bool) (f : ℕ)
    → MatchResult r (λ _. FoldsTo (At value_of takes) p.sink (map csi (csi_of ps more f)) s)
    (λ _. StopsGiven (Refused A) (At value_of takes) (At value_of refuses) p.sink
    (map csi (csi_of ps more f)) s)
    → Receives (Performs takes) (Stops takes refuses) r p (CsiDispatch ps more f)
    (record p { sink = s })
sequence_heard takes refuses (Ok t) p s ps more f h = λ limit m k. (k, h)
sequence_heard takes refuses (Err e) p s ps more f h = λ limit m k.
    memory_stopped takes refuses p.sink s (map csi (csi_of ps more f)) h
