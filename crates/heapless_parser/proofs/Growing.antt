-- A parser goes on with more memory.
use Rattle.std.proofs.Common.{ℕ, ◌≡◌, ◌≤◌, ◌+◌, Bool, true, false, not, nat_le, List, [], ◌∷◌, ◌++◌, Option, Some, None, length, take, refl, ap, sym, ◌∙◌, subst, arith}
use Rattle.std.proofs.lemmas.List.{length-append, take-append-le}
use Rattle.std.proofs.lemmas.Bool.Decides.{nat_tests}
use Rattle.esc_frame.specs.Classes.{bytes_of_class, is_text, without_noise}
use Rattle.esc_frame.specs.Counts.{AreWithin, count_of}
use Rattle.esc_frame.specs.Events.{Event}
use Rattle.esc_frame.specs.Leads.{HasCut, Unfinished}
use Rattle.esc_frame.specs.Leads.Unfinished.{Ground, Pending, InEscape, InCsi, InOsc, InOscPending, InDcs, InData, InApc, InIgnored}
use Rattle.esc_frame.specs.Limits.{header_count, is_read, is_within}
use Rattle.esc_frame.specs.Machine.Keeps.{parameters_of}
use Rattle.esc_frame.specs.Machine.Moves.{after_all, is_ground}
use Rattle.esc_frame.specs.Segments.{IsCut, Segment, text_of}
use Rattle.esc_frame.specs.Segments.Segment.{CutDcs}
use Rattle.esc_frame.specs.Stream.{events, events_within}
use Rattle.esc_frame.proofs.Cut.CutExists.{cut_last, last_of, stands}
use Rattle.esc_frame.proofs.Cut.CutIsUnique.{one_cut}
use Rattle.esc_frame.proofs.Limit.ShortIsUnlimited.{same_within}
use Rattle.heapless_parser.specs.Growing.{AreShort, most_kept}
use Rattle.heapless_parser.specs.States.{HasConsumed, KeptIn}
use Rattle.heapless_parser.specs.Texts.{KeepsBorrowed}
use Rattle.heapless_parser.specs.declared.parser.EscParser.{EscParser}

-- ---- the segments

count_kept : (g : Segment) → count_of g ≤ most_kept g
count_kept (CutDcs o x) = omega arith
count_kept g = omega arith

test_of : (n l m : ℕ) → n ≤ l → l ≤ m → nat_le n m ≡ true
test_of n l m h k = grind (arith, nat_tests)

are_within : (l m : ℕ) (gs : List Segment) → l ≤ m → AreShort l gs → AreWithin (Some m) gs
are_within l m [] k h = tt
are_within l m (g ∷ gs) k h =
    (test_of (count_of g) l m (omega (arith, count_kept g, h.0)) k, are_within l m gs k h.1)

last_short : (l : ℕ) (gs : List Segment) (g : Segment) → AreShort l (gs ++ g ∷ [])
    → most_kept g ≤ l
last_short l [] g h = h.0
last_short l (k ∷ gs) g h = last_short l gs g h.1

-- ---- the kept bytes

module _ (p : EscParser) (memory more : List ℕ) where
  abbrev all : List ℕ
  all = memory ++ more

  longer : length memory ≤ length all
  longer = omega (arith, length-append memory more)

  text_more : (t : List ℕ) → length t ≤ length memory
      → KeepsBorrowed (Some (length memory)) p.is_over p.text memory t
      → KeepsBorrowed (Some (length all)) p.is_over p.text all t
  text_more t h k =
      let before : nat_le (length t) (length memory) ≡ true =
      test_of (length t) (length memory) (length memory) h (omega arith) in
      let after : nat_le (length t) (length all) ≡ true =
      test_of (length t) (length memory) (length all) h longer in (
        k.0 ∙ ap not (before ∙ sym after),
        λ e. let old = k.1 e in
            (old.0, take-append-le p.text memory more (omega (arith, old.0, h)) ∙ old.1),
      )

  read_more : (x : List ℕ) → header_count x ≤ length memory
      → is_read (Some (length memory)) x ≡ is_read (Some (length all)) x
  read_more x h =
      rw (
        test_of (header_count x) (length memory) (length memory) h (omega arith),
        test_of (header_count x) (length memory) (length all) h longer,
      ) refl

  kept_more : (u : Unfinished) → is_ground u ≡ false → most_kept (last_of u) ≤ length memory
      → KeptIn p memory u → KeptIn p all u
  kept_more Ground n h k = absurd cc
  kept_more (Pending f) n h k = k
  kept_more (InEscape x) n h k = k
  kept_more (InCsi o x) n h k = k
  kept_more (InDcs o x) n h k =
      (k.0, text_more (parameters_of (without_noise x)) h k.1, k.2)
  kept_more (InData o x f d) n h k =
      rw (sym (read_more (without_noise x) h)) k
  kept_more (InApc o d) n h k = (k.0, text_more (bytes_of_class is_text d) h k.1)
  kept_more (InIgnored i o d) n h k = k
  kept_more (InOsc o ps) n h k = (k.0, text_more (text_of ps) h k.1, k.2)
  kept_more (InOscPending o ps f) n h k = (k.0, text_more (text_of ps) h k.1, k.2, k.3)

  kept_by : (s : List ℕ) (es : List Event) (gs hs : List Segment) (u : Unfinished)
      → HasCut None s es hs u → IsCut s gs → AreShort (length memory) gs
      → KeptIn p memory u → KeptIn p all u
  kept_by s es gs hs Ground st cut h k = k
  kept_by s es gs hs u st cut h k =
      let same : gs ≡ hs ++ last_of u ∷ [] =
      one_cut s gs (hs ++ last_of u ∷ []) cut (cut_last s es hs u refl st) in
      kept_more u refl (last_short (length memory) hs (last_of u)
      (subst (AreShort (length memory)) same h)) k

  events_same : (s : List ℕ) (gs : List Segment) → IsCut s gs → AreShort (length memory) gs
      → events_within (Some (length all)) s ≡ events_within (Some (length memory)) s
  events_same s gs cut h =
      same_within (Some (length all)) s gs cut
      (are_within (length memory) (length all) gs longer h)
      ∙ sym (same_within (Some (length memory)) s gs cut
      (are_within (length memory) (length memory) gs (omega arith) h))

pub grows : (s : List ℕ) (es : List Event) (gs : List Segment) (p : EscParser)
    (memory more : List ℕ) → IsCut s gs → AreShort (length memory) gs
    → HasConsumed s es p memory → HasConsumed s es p (memory ++ more)
unfolding HasConsumed
grows s es gs p memory more cut h c =
    let w = stands None s in (
      c.0,
      kept_by p memory more s (events s) gs w.0 (after_all Ground s) w.1 cut h c.1,
      events_same p memory more s gs cut h ∙ c.2,
    )
