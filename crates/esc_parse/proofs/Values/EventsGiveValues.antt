-- From events to values, and the values that a sink was given.
use Rattle.std.proofs.Common.{◌≡◌, ℕ, Bool, true, List, [], ◌∷◌, ◌++◌, map, refl, ap, sym, ◌∙◌, subst, append_assoc, inl, inr, Option}
use Rattle.std.proofs.lemmas.List.{map-append}
use Rattle.std.specs.List.{FoldsTo}
use Rattle.esc_frame.specs.Events.{Awaits, Event, StopsAt as StopsAtEvent}
use Rattle.esc_frame.specs.Memory.{MayGrow, MayTake, may_grow, may_take}
use Rattle.esc_frame.specs.Segments.{Segment, events_of_within}
use Rattle.esc_frame.specs.Stream.{events_within, added_within}
use Rattle.esc_frame.proofs.Emits.EventsFold.{stops_for}
use Rattle.esc_frame.proofs.Emits.MayAfterSome.{take_prefix, take_rest}
use Rattle.esc_frame.proofs.Limit.GrowingSegments.{grows_takes}
use Rattle.esc_frame.proofs.Emits.EventsAreTheCuts.{events_more}
use Rattle.esc_actions.proofs.Meaning.MeaningsJoin.{mode_more, values_append, yield_is}
use Rattle.esc_parse.proofs.Lists.ListTakesActions.{gathers}
use Rattle.esc_parse.proofs.Lists.StepsOverLists.{FoldsTo-append, StopsAt-append, StopsAt-here, StopsAt-longer, StopsAt-weaker}
use Rattle.esc_parse.proofs.Values.NoEventWantsMemory.{event_takes, growing_takes, segment_takes}
use Rattle.esc_parse.specs.Collected.{Gathers}
use Rattle.esc_parse.specs.Fed.{Hooks}
use Rattle.esc_parse.specs.Given.{At, StopsAt}
use Rattle.esc_actions.specs.Meaning.{mode_from, values_from, yield_within}
use Rattle.esc_actions.specs.Readings.{reading_within}
use Rattle.esc_actions.specs.Values.{Mode, Value, mode_after, event_values, plain, value_of, wants_memory}
use Rattle.esc_parse.specs.declared.performer.Performer.{Performer}
use Rattle.fallible_alloc.specs.Refusals.{Refused}
use Rattle.esc_parse.specs.declared.sink.Collect.{Collect}
use Rattle.esc_parse.specs.declared.unfinished.Unfinished.{Unfinished}

-- the effect of events on an actor that gives a sink their values
module _ {S A : Type 0} (R Q : S → Value A → S → Type 0) where
  abbrev Takes : Performer S A → Event → Performer S A → Type 0
  Takes p e q =
      (limit : Option ℕ) (m : Mode) → Hooks limit p.unfinished m
      → Hooks limit q.unfinished (mode_after m e) × FoldsTo R p.sink (event_values limit m e) q.sink

  -- an event that wants memory, which was refused
  abbrev Denied : Event → Type 0
  Denied e = (wants_memory e ≡ true) × Refused A

  abbrev Refuses : Performer S A → Event → Performer S A → Type 0
  Refuses p e q =
      (limit : Option ℕ) (m : Mode) → Hooks limit p.unfinished m
      → StopsAt (Denied e) R Q p.sink (event_values limit m e) q.sink

  pub performs : (limit : Option ℕ) (es : List Event) (p : Performer S A) (m : Mode)
      (q : Performer S A) → FoldsTo Takes p es q → Hooks limit p.unfinished m
      → Hooks limit q.unfinished (mode_from m es) × FoldsTo R p.sink (values_from limit m es) q.sink
  performs limit [] p m q e k = (subst (λ x. Hooks limit x.unfinished m) e k, ap (λ x. x.sink) e)
  performs limit (e ∷ es) p m q (j, t, h) k =
      let one = t limit m k in
      let rest = performs limit es j (mode_after m e) q h one.0 in (
        rest.0,
        FoldsTo-append R p.sink (event_values limit m e) j.sink
            (values_from limit (mode_after m e) es) q.sink one.1 rest.1,
      )

  abbrev May : (S → Value A → Type 0) → Performer S A → Event → Type 0
  May may p e = (limit : Option ℕ) × (m : Mode) × Hooks limit p.unfinished m
      × Awaits may R p.sink (event_values limit m e)

  -- whose sink awaits the values may be given the events
  pub may_perform : (may : S → Value A → Type 0) (limit : Option ℕ) (es : List Event)
      (p : Performer S A) (m : Mode) → Hooks limit p.unfinished m
      → Awaits may R p.sink (values_from limit m es) → Awaits (May may) Takes p es
  may_perform may limit [] p m k a = tt
  may_perform may limit (e ∷ es) p m k a = (
    (
      limit,
      m,
      k,
      take_prefix may R p.sink (event_values limit m e)
          (values_from limit (mode_after m e) es) a,
    ),
    λ q t. let one = t limit m k in
        may_perform may limit es q (mode_after m e) one.0
        (take_rest may R p.sink (event_values limit m e) (values_from limit
        (mode_after m e) es) q.sink one.1 a),
  )

  pub performs_prefix : (limit : Option ℕ) (own : Type 0) (es : List Event) (p : Performer S A)
      (m : Mode) (q : Performer S A)
      → ((before : List Event) (e : Event) (later : List Event) → es ≡ before ++ e ∷ later
      → Denied e → own)
      → StopsAtEvent own Takes Refuses p es q → Hooks limit p.unfinished m
      → StopsAt own R Q p.sink (values_from limit m es) q.sink
  performs_prefix limit own es p m q wants (prefix, rest, whole, stop) k =
      let all : values_from {A = A} limit m es
      ≡ values_from limit m prefix ++ values_from limit (mode_from m prefix) rest =
      ap (values_from limit m) whole ∙ values_append limit m prefix rest in
      let Goal : List (Value A) → Type 0 = λ x. StopsAt own R Q p.sink x q.sink in
      subst Goal (sym all) (elim stop [
        | inl x ↦
            let run = performs limit prefix p m q x.1 k in
            StopsAt-append R Q own p.sink (values_from limit m prefix) q.sink
            (values_from limit (mode_from m prefix) rest) q.sink run.1
            (StopsAt-here R Q own q.sink
            (values_from limit (mode_from m prefix) rest) q.sink x.0 refl)
        | inr x ↦
            let (mid, e, more, is, took, refused) = x in
            let run = performs limit prefix p m mid took k in
            let here = refused limit (mode_from m prefix) run.0 in
            let own_from : Denied e
            → own = wants prefix e more (whole ∙ ap (λ l. prefix ++ l) is) in
            let Rest : List Event → Type 0 =
            λ l. StopsAt own R Q mid.sink (values_from limit (mode_from m prefix) l) q.sink in
            StopsAt-append R Q own p.sink (values_from limit m prefix) mid.sink
            (values_from limit (mode_from m prefix) rest) q.sink run.1
            (subst Rest (sym is)
            (StopsAt-longer R Q own mid.sink (event_values limit (mode_from m prefix) e)
            (values_from limit (mode_after (mode_from m prefix) e) more) q.sink
            (StopsAt-weaker R Q own (Denied e) mid.sink
            (event_values limit (mode_from m prefix) e) q.sink own_from here)))
      ])

  -- the events of a segment by itself
  pub performs_segment : (limit : Option ℕ) (g : Segment) (finished : Bool)
      (p q : Performer S A)
      → StopsAtEvent ((may_grow g ≡ true) × Refused A) Takes Refuses p
      (events_of_within limit g finished) q
      → Hooks limit p.unfinished plain
      → StopsAt ((may_take g ≡ true) × Refused A) R Q p.sink (reading_within limit g finished)
      q.sink
  performs_segment limit g finished p q h =
      let es = events_of_within limit g finished in
      performs_prefix limit ((may_take g ≡ true) × Refused A) es p plain q
      (λ before e later is d. (segment_takes limit g finished before e later is d.0, d.1))
      (stops_for ((may_grow g ≡ true) × Refused A) ((may_take g ≡ true) × Refused A) Takes Refuses
      es p q (λ o. (growing_takes g o.0, o.1)) h)

-- an event after s that wants memory
pub added_takes : (limit : Option ℕ) (s b : List ℕ) (before : List Event) (e : Event)
    (later : List Event)
    → added_within limit s b ≡ before ++ e ∷ later → wants_memory e ≡ true → MayTake (s ++ b)
added_takes limit s b before e later is h =
    event_takes limit (s ++ b) (events_within limit s ++ before) e later
    (sym (events_more limit s b) ∙ ap (λ l. events_within limit s ++ l) is
    ∙ sym (append_assoc (events_within limit s) before (e ∷ later))) h

-- an event that leaves the unfinished string unfinished
pub hooks_by : {A : Type 0} (limit : Option ℕ) (u : Unfinished A) (s b : List ℕ) (x : Event)
    → added_within limit s b ≡ x ∷ []
    → mode_after (mode_from plain (events_within limit s)) x
    ≡ mode_from plain (events_within limit s)
    → Hooks limit u (mode_from plain (events_within limit s))
    → Hooks limit u (mode_from plain (events_within limit (s ++ b)))
hooks_by limit u s b x e same h =
    subst (λ m. Hooks limit u m)
    (sym same ∙ ap (mode_from (mode_from plain (events_within limit s))) (sym e)
    ∙ mode_more limit s b) h

-- a call that feeds b after s
module _ {S A : Type 0} (R Q : S → Value A → S → Type 0) where
  pub performs_fed : (limit : Option ℕ) (s b : List ℕ) (p q : Performer S A)
      → FoldsTo (Takes R Q) p (added_within limit s b) q
      → Hooks limit p.unfinished (mode_from plain (events_within limit s))
      → Hooks limit q.unfinished (mode_from plain (events_within limit (s ++ b)))
      × FoldsTo R p.sink (yield_within limit s b) q.sink
  performs_fed limit s b p q h k =
      let w = performs R Q limit (added_within limit s b) p
      (mode_from plain (events_within limit s)) q h k in (
        subst (λ m. Hooks limit q.unfinished m) (mode_more limit s b) w.0,
        subst (λ vs. FoldsTo R p.sink vs q.sink) (sym (yield_is limit s b)) w.1,
      )

  pub may_feed : (may : S → Value A → Type 0) (limit : Option ℕ) (s b : List ℕ)
      (p : Performer S A)
      → Hooks limit p.unfinished (mode_from plain (events_within limit s))
      → Awaits may R p.sink (yield_within limit s b)
      → Awaits (May R Q may) (Takes R Q) p (added_within limit s b)
  may_feed may limit s b p k a =
      may_perform R Q may limit (added_within limit s b) p
      (mode_from plain (events_within limit s)) k
      (subst (Awaits may R p.sink) (yield_is limit s b) a)

  pub performs_some : (limit : Option ℕ) (s b : List ℕ) (p q : Performer S A)
      → StopsAtEvent (MayGrow (s ++ b) × Refused A) (Takes R Q) (Refuses R Q) p
      (added_within limit s b) q
      → Hooks limit p.unfinished (mode_from plain (events_within limit s))
      → StopsAt (MayTake (s ++ b) × Refused A) R Q p.sink (yield_within limit s b) q.sink
  performs_some limit s b p q h k =
      let own : Type 0 = MayTake (s ++ b) × Refused A in
      let w = performs_prefix R Q limit own (added_within limit s b) p
      (mode_from plain (events_within limit s)) q
      (λ before e later is d. (added_takes limit s b before e later is d.0, d.1))
      (stops_for (MayGrow (s ++ b) × Refused A) own (Takes R Q) (Refuses R Q)
      (added_within limit s b) p q
      (λ g. (grows_takes (s ++ b) g.0, g.1)) h) k in
      subst (λ vs. StopsAt own R Q p.sink vs q.sink) (sym (yield_is limit s b)) w

-- the values that a list of actions was given
pub collects : {A : Type 0} (p : Collect A) (vs : List (Value A)) (q : Collect A)
    → FoldsTo (At value_of Gathers) p vs q
    → map value_of q.actions.items ≡ map value_of p.actions.items ++ vs
collects p vs q h = let (more, all, values) = gathers p vs q h in
    ap (map value_of) all ∙ map-append value_of p.actions.items more
    ∙ ap (λ l. map value_of p.actions.items ++ l) values
