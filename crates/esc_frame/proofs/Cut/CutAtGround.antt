-- Where the cut has no unfinished segment.
use Rattle.std.proofs.Common.{ℕ, Option, None, ◌≡◌, Bool, true, false, List, [], ◌∷◌, ◌++◌, refl, ap, ◌∙◌, subst}
use Rattle.std.proofs.lemmas.List.{append-nil}
use Rattle.esc_frame.specs.Events.{Event}
use Rattle.esc_frame.specs.Segments.{Segment, joined_bytes, ends_itself, is_finished}
use Rattle.esc_frame.specs.Leads.{Unfinished, HasCut, AreFinished, open_bytes}
use Rattle.esc_frame.specs.Leads.Unfinished.{Ground}
use Rattle.esc_frame.specs.Machine.Moves.{after_all, events_all}
use Rattle.esc_frame.specs.Stream.{IsAtGround, events_within, added_within}
use Rattle.esc_frame.proofs.Cut.CutExists.{are_closed, last_of, last_goes_on, cut_last, itself, stands}
use Rattle.esc_frame.proofs.Cut.CutIsUnique.{one_cut}
use Rattle.esc_frame.proofs.Emits.EventsAreTheCuts.{added_is}

last_finished : (gs : List Segment) (g : Segment) → AreFinished (gs ++ g ∷ []) []
    → is_finished g [] ≡ true
last_finished [] g h = h.1
last_finished (k ∷ gs) g h = last_finished gs g h.2

not_both : (b : Bool) → b ≡ true → b ≡ false → ⊥
not_both true h k = cc
not_both false h k = cc

pub ground_if : {limit : Option ℕ} (s : List ℕ) (es : List Event) (gs : List Segment)
    (u : Unfinished) → HasCut limit s es gs u → IsAtGround s → u ≡ Ground
ground_if s es gs Ground st h = refl
ground_if s es gs u st (hs, cut, fin) =
    let same = one_cut s hs (gs ++ last_of u ∷ []) cut (cut_last s es gs u refl st) in
    absurd (not_both (ends_itself (last_of u))
    (itself (last_of u)
    (last_finished gs (last_of u) (subst (λ ks. AreFinished ks []) same fin)))
    (last_goes_on u refl))

pub at_ground_if : {limit : Option ℕ} (s : List ℕ) (es : List Event) (gs : List Segment)
    (u : Unfinished) → HasCut limit s es gs u → u ≡ Ground → IsAtGround s
at_ground_if s es gs u st e =
    let b : open_bytes u ≡ [] = ap open_bytes e in
    let f : AreFinished gs [] = subst (λ y. AreFinished gs y) b st.finished in (
      gs,
      record {
        whole = st.whole ∙ ap (λ y. joined_bytes gs ++ y) b ∙ append-nil (joined_bytes gs);
        each = are_closed gs f;
      },
      f,
    )

-- at ground exactly where the machine is
pub to_ground : (s : List ℕ) → IsAtGround s → after_all Ground s ≡ Ground
to_ground s h = let w = stands None s in
    ground_if s (events_within None s) w.0 (after_all Ground s) w.1 h

pub from_ground : (s : List ℕ) → after_all Ground s ≡ Ground → IsAtGround s
from_ground s e = let w = stands None s in
    at_ground_if s (events_within None s) w.0 (after_all Ground s) w.1 e

-- after it, bytes add their own events
pub ground_added : (limit : Option ℕ) (s b : List ℕ) → IsAtGround s
    → added_within limit s b ≡ events_within limit b
unfolding events_within
ground_added limit s b h = added_is limit s b ∙ ap (λ u. events_all limit u b) (to_ground s h)
