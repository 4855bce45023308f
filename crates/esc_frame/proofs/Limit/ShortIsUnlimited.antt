-- A stream none of whose segments passes the limit has the events that it has without one.
use Rattle.std.proofs.Common.{ℕ, ◌≡◌, Bool, true, List, [], ◌∷◌, ◌++◌, Option, None, refl, ap, ◌∙◌}
use Rattle.esc_frame.specs.Counts.{count_of, AreWithin}
use Rattle.esc_frame.specs.Limits.{is_within}
use Rattle.esc_frame.specs.Segments.{Segment, IsCut, events_of, events_of_within, events_of_cut, events_of_cut_within, ends_itself}
use Rattle.esc_frame.specs.Segments.Segment.{Osc, Dcs, Apc}
use Rattle.esc_frame.specs.Stream.{events_within, events}
use Rattle.esc_frame.proofs.Cut.CutExists.{events_of_the_cut}
use Rattle.esc_frame.proofs.Cut.CutIsUnique.{events_once}

same_events : (limit : Option ℕ) (g : Segment) (f : Bool) → is_within limit (count_of g) ≡ true
    → events_of_within limit g f ≡ events_of g f
same_events limit (Osc o ps e) f h = rw h refl
same_events limit (Apc o d) f h = rw h refl
same_events limit (Dcs o x b d) f h = rw h refl
same_events limit _ f h = refl

same_cut : (limit : Option ℕ) (gs : List Segment) → AreWithin limit gs
    → events_of_cut_within limit gs ≡ events_of_cut gs
same_cut limit [] h = refl
same_cut limit (g ∷ []) h = same_events limit g (ends_itself g) h.0
same_cut limit (g ∷ k ∷ gs) h =
    ap (λ es. es ++ events_of_cut_within limit (k ∷ gs)) (same_events limit g true h.0)
    ∙ ap (λ es. events_of g true ++ es) (same_cut limit (k ∷ gs) h.1)

pub same_within : (limit : Option ℕ) (s : List ℕ) (gs : List Segment) → IsCut s gs
    → AreWithin limit gs → events_within limit s ≡ events s
same_within limit s gs cut h =
    events_once limit s (events_within limit s) (events_of_cut_within limit gs)
    (events_of_the_cut limit s) (gs, cut, refl)
    ∙ same_cut limit gs h ∙ events_once None s (events_of_cut gs) (events s) (
      gs,
      cut,
      refl,
    ) (events_of_the_cut None s)
