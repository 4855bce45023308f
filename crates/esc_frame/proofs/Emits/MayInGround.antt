-- An actor may be given these events in ground.
use Rattle.std.proofs.Common.{ℕ, ◌≡◌, ◌-◌, ◌⊎◌, true, List, [], ◌∷◌, ◌++◌, map, length, take, drop, Option, sym, ap, ◌∙◌, subst, take-append-drop}
use Rattle.std.specs.List.{FoldsTo, prefix_len, list_all}
use Rattle.esc_frame.specs.Events.{Event, Awaits, MayGet}
use Rattle.esc_frame.specs.Events.Event.{Print}
use Rattle.esc_frame.specs.Leads.{Unfinished}
use Rattle.esc_frame.specs.Leads.Unfinished.{Ground}
use Rattle.esc_frame.specs.Machine.Calls.{MayRun, Ran, IsOneEvent}
use Rattle.esc_frame.specs.Machine.Moves.{after_all, events_all}
use Rattle.esc_frame.specs.Scans.{is_text_byte}
use Rattle.esc_frame.proofs.ByteRuns.ManyBytes.{tail_is, run_passes, text_run}
use Rattle.std.proofs.Math.Logic.{⊎_map}
use Rattle.esc_frame.proofs.Emits.MayAfterSome.{take_prefix, take_rest, get_first}
use Rattle.esc_frame.proofs.Emits.EventsAreTheCuts.{events_append}

module _ {S : Type 0} (may : S → Event → Type 0) (takes : S → Event → S → Type 0) (rest : List ℕ)
    (n : ℕ) (limit : Option ℕ) (u : Unfinished) where
  -- the events of some bytes are those of the first n, and then of the others
  parted : events_all limit u (take n rest)
      ++ events_all limit (after_all u (take n rest)) (drop n rest)
      ≡ events_all limit u rest
  parted = sym (events_append limit u (take n rest) (drop n rest))
      ∙ ap (events_all limit u) (take-append-drop n rest)

  -- those of the first n bytes, which have these events
  pub cut_first : (es : List Event) (old : S) → events_all limit u (take n rest) ≡ es
      → Awaits may takes old (events_all limit u rest) → Awaits may takes old es
  cut_first es old e m =
      subst (Awaits may takes old) e
      (take_prefix may takes old (events_all limit u (take n rest)) _
      (subst (Awaits may takes old) (sym parted) m))

  -- it awaits the rest after them
  pub cut_rest : (v : Unfinished) (old mid : S) → after_all u (take n rest) ≡ v
      → FoldsTo takes old (events_all limit u (take n rest)) mid
      → Awaits may takes old (events_all limit u rest)
      → Awaits may takes mid (events_all limit v (take (length rest - n) (drop n rest)))
  cut_rest v old mid here so m =
      subst (λ x. Awaits may takes mid (events_all limit v x)) (sym (tail_is rest n))
      (subst (λ w. Awaits may takes mid (events_all limit w (drop n rest))) here
      (take_rest may takes old (events_all limit u (take n rest)) _ mid so
      (subst (Awaits may takes old) (sym parted) m)))

module _ {S : Type 0} (is_ready : S → Type 0) (may : S → Event → Type 0)
    (takes : S → Event → S → Type 0) (rest : List ℕ) (n : ℕ) where
  pub may_first : (u : Unfinished) (es : List Event) (old : S)
      → ((limit : Option ℕ) → events_all limit u (take n rest) ≡ es)
      → MayRun is_ready may takes u rest old → MayGet is_ready may takes old es
  may_first u es old e =
      ⊎_map (λ r. r) (λ w. cut_first may takes rest n w.0 u es old (e w.0) w.1)

  -- their one event
  pub may_one : (e : Event) (old : S) → IsOneEvent (take n rest) e
      → MayRun is_ready may takes Ground rest old → is_ready old ⊎ may old e
  may_one e old one m =
      get_first is_ready may takes old old e [] (may_first Ground (e ∷ []) old one.1 m)

  -- their characters, one byte each
  pub may_text : (old : S) → n ≡ prefix_len is_text_byte rest
      → MayRun is_ready may takes Ground rest old
      → MayGet is_ready may takes old (map Print (take n rest))
  may_text old e m =
      may_first Ground (map Print (take n rest)) old (λ limit. (text_run limit (take n rest) p).1) m
    where
      p : list_all is_text_byte (take n rest) ≡ true
      p = subst (λ k. list_all is_text_byte (take k rest) ≡ true) (sym e)
          (run_passes is_text_byte rest)

  -- it may be given the rest after them
  pub may_after : (old mid : S) → Ran takes is_ready rest n old mid
      → MayRun is_ready may takes Ground rest old
      → MayRun is_ready may takes Ground (take (length rest - n) (drop n rest)) mid
  may_after old mid ran =
      ⊎_map ran.3
      (λ w. (w.0, cut_rest may takes rest n w.0 Ground Ground old mid ran.1 (ran.2 w.0) w.1))
