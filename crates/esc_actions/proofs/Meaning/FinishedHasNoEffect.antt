-- Finished segments have no effect on the meaning of the bytes after them.
use Rattle.std.proofs.Common.{ℕ, Option, ◌≡◌, List, [], ◌∷◌, true, refl, ap, sym, ◌∙◌}
use Rattle.esc_frame.specs.Leads.{finished_events_within}
use Rattle.esc_frame.specs.Segments.{Segment, events_of_within}
use Rattle.esc_frame.specs.Stream.{IsAfterFinished, added_within, events_within}
use Rattle.esc_frame.proofs.Emits.FinishedIsForgotten.{added_alone, events_alone}
use Rattle.esc_actions.proofs.Meaning.MeaningsJoin.{mode_append, yield_is}
use Rattle.esc_actions.proofs.Meaning.StreamMeansReadings.{closes}
use Rattle.esc_actions.specs.Meaning.{mode_from, values_from, yield_within}
use Rattle.esc_actions.specs.Values.{plain}

-- finished segments leave nothing unfinished
finished_close : (limit : Option ℕ) (gs : List Segment)
    → mode_from plain (finished_events_within limit gs) ≡ plain
finished_close limit [] = refl
finished_close limit (g ∷ gs) =
    mode_append plain (events_of_within limit g true) (finished_events_within limit gs)
    ∙ ap (λ m. mode_from m (finished_events_within limit gs)) (closes limit g)
    ∙ finished_close limit gs

module _ (limit : Option ℕ) (s u : List ℕ) (after : IsAfterFinished s u) where
  -- so the unfinished string of the stream is that of the rest of the stream
  pub mode_alone : mode_from plain (events_within limit s) ≡ mode_from plain (events_within limit u)
  mode_alone =
      ap (mode_from plain) (events_alone limit s u after)
      ∙ mode_append plain (finished_events_within limit after.0) (events_within limit u)
      ∙ ap (λ m. mode_from m (events_within limit u)) (finished_close limit after.0)

  -- and bytes yield the same values after the stream as after that rest
  pub yield_alone : {A : Type 0} (b : List ℕ)
      → yield_within {A = A} limit s b ≡ yield_within limit u b
  yield_alone b =
      yield_is limit s b
      ∙ ap (λ m. values_from limit m (added_within limit s b)) mode_alone
      ∙ ap (values_from limit (mode_from plain (events_within limit u)))
      (added_alone limit s u b after)
      ∙ sym (yield_is limit u b)
