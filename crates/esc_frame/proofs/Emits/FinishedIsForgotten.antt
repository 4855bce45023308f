-- Finished segments of a stream do not act on later bytes.
use Rattle.std.proofs.Common.{ℕ, Option, None, ◌≡◌, false, List, [], ◌∷◌, ◌++◌, refl, ap, sym, ◌∙◌, subst, inl, inr, append-nil}
use Rattle.esc_frame.specs.declared.parser.VTParser.{VTParser}
use Rattle.esc_frame.specs.Events.{Event}
use Rattle.esc_frame.specs.Segments.{Segment, joined_bytes, bytes_of}
use Rattle.esc_frame.specs.Segments.Segment.{Broken, Osc, CutEscape, CutCsi, CutDcs, Dcs, Apc, Ignored}
use Rattle.esc_frame.specs.Segments.Ending.{Open, Waits}
use Rattle.esc_frame.specs.Leads.{Unfinished, Holds, OpenShape, HasCut, open_bytes}
use Rattle.esc_frame.specs.Leads.{AreFinished, finished_events_within}
use Rattle.esc_frame.specs.Leads.Unfinished.{Ground, Pending, InEscape, InCsi, InOsc, InOscPending, InDcs, InData, InApc, InIgnored}
use Rattle.esc_frame.specs.Machine.Keeps.{KeepsText}
use Rattle.esc_frame.specs.Machine.Moves.{after_all, events_all, is_ground}
use Rattle.esc_frame.specs.Stream.{IsAfterFinished, IsUnfinished, HasConsumedWithin, added_within, events_within}
use Rattle.esc_frame.proofs.Cut.CutAtGround.{at_ground_if, ground_if}
use Rattle.esc_frame.proofs.Cut.CutExists.{cut_last, last_bytes, last_goes_on, last_of, last_shape, stands}
use Rattle.esc_frame.proofs.Cut.CutIsUnique.{one_cut}
use Rattle.esc_frame.proofs.Emits.EventsAreTheCuts.{added_is, events_after, cut_after}

-- ---- the last segment of a cut

abbrev last_or : Segment → List Segment → Segment
last_or g [] = g
last_or g (h ∷ hs) = last_or h hs

last_pushed : (d : Segment) (gs : List Segment) (g : Segment) → last_or d (gs ++ g ∷ []) ≡ g
last_pushed d [] g = refl
last_pushed d (h ∷ gs) g = last_pushed h gs g

last_same : (gs hs : List Segment) (g h : Segment) → gs ++ g ∷ [] ≡ hs ++ h ∷ [] → g ≡ h
last_same gs hs g h e = sym (last_pushed g gs g) ∙ ap (last_or g) e ∙ last_pushed g hs h

-- the unfinished part of the last segment
abbrev open_of : Segment → Unfinished
open_of (Broken f) = Pending f
open_of (CutEscape x) = InEscape x
open_of (CutCsi o x) = InCsi o x
open_of (CutDcs o x) = InDcs o x
open_of (Dcs o x f d) = InData o x f d
open_of (Apc o d) = InApc o d
open_of (Ignored k o d) = InIgnored k o d
open_of (Osc o ps Open) = InOsc o ps
open_of (Osc o ps (Waits f)) = InOscPending o ps f
open_of _ = Ground

open_is : (u : Unfinished) → is_ground u ≡ false → open_of (last_of u) ≡ u
open_is Ground n = absurd cc
open_is u n = refl

-- ---- a stream leaves one thing unfinished

open_same : {limit : Option ℕ} (s : List ℕ) (es fs : List Event) (gs hs : List Segment)
    (u v : Unfinished)
    → is_ground u ≡ false → HasCut limit s es gs u → HasCut limit s fs hs v → u ≡ v
open_same s es fs gs hs u Ground n st ts =
    ground_if s es gs u st (at_ground_if s fs hs Ground ts refl)
open_same s es fs gs hs u v n st ts =
    sym (open_is u n)
    ∙ ap open_of (last_same gs hs (last_of u) (last_of v)
    (one_cut s (gs ++ last_of u ∷ []) (hs ++ last_of v ∷ [])
    (cut_last s es gs u n st) (cut_last s fs hs v refl ts)))
    ∙ open_is v refl

one_end : {limit : Option ℕ} (s : List ℕ) (es fs : List Event) (gs hs : List Segment)
    (u v : Unfinished)
    → HasCut limit s es gs u → HasCut limit s fs hs v → u ≡ v
one_end s es fs gs hs Ground v st ts =
    sym (ground_if s fs hs v ts (at_ground_if s es gs Ground st refl))
one_end s es fs gs hs u v st ts = open_same s es fs gs hs u v refl st ts

-- ---- bytes after finished segments leave the same segment unfinished as the whole stream

after_finished : (gs : List Segment) (u : List ℕ) → AreFinished gs u
    → after_all Ground (joined_bytes gs ++ u) ≡ after_all Ground u
after_finished gs u f =
    let s = joined_bytes gs ++ u in
    let one = stands None s in
    let two = cut_after None gs u f in
    one_end s (events_within None s)
    (finished_events_within None gs ++ events_within None u) one.0 two.0
    (after_all Ground s) (after_all Ground u) one.1 two.1

after_alone : (s u : List ℕ) → IsAfterFinished s u → after_all Ground s ≡ after_all Ground u
after_alone s u (gs, e, f) = ap (after_all Ground) e ∙ after_finished gs u f

pub unfinished_alone : {A : Type 0} (limit : Option ℕ) (s u : List ℕ) (p : VTParser A)
    → IsAfterFinished s u → HasConsumedWithin limit s p → HasConsumedWithin limit u p
unfolding HasConsumedWithin
unfinished_alone limit s u p h (f, i, k) =
    (f, i, subst (λ v. Holds KeepsText p.machine.limit p.machine v) (after_alone s u h) k)

pub added_alone : (limit : Option ℕ) (s u b : List ℕ) → IsAfterFinished s u
    → added_within limit s b ≡ added_within limit u b
added_alone limit s u b h =
    added_is limit s b ∙ ap (λ v. events_all limit v b) (after_alone s u h)
    ∙ sym (added_is limit u b)

pub events_alone : (limit : Option ℕ) (s u : List ℕ) (h : IsAfterFinished s u)
    → events_within limit s ≡ finished_events_within limit h.0 ++ events_within limit u
events_alone limit s u (gs, e, f) = ap (events_within limit) e ∙ events_after limit gs u f

-- ---- each stream has an unfinished part

open_end : (u : Unfinished) → OpenShape u → IsUnfinished (open_bytes u) (open_bytes u)
open_end Ground h = (([], refl, tt), inl refl)
open_end u h = (
  ([], refl, tt),
  inr (
    last_of u,
    record {
      whole = last_bytes u refl ∙ sym (append-nil (bytes_of (last_of u)));
      each = last_shape u refl h;
    },
    last_goes_on u refl,
  ),
)

pub has_unfinished : (s : List ℕ) → (u : List ℕ) × IsUnfinished s u
has_unfinished s =
    let w = stands None s in
    let v = after_all Ground s in
    (open_bytes v, ((w.0, w.1.whole, w.1.finished), (open_end v w.1.shape).1))
