-- Where the segments of a cut can be lent, so can the bytes.
use Rattle.std.proofs.Common.{ℕ, ◌≡◌, Bool, true, false, not, ◌&&◌, ◌||◌, ◌==◌, List, [], ◌∷◌, ◌++◌, refl, ap, sym, ◌∙◌, subst, append_assoc, None}
use Rattle.std.proofs.Common.{inl, inr, arith}
use Rattle.std.specs.List.{list_all}
use Rattle.std.proofs.lemmas.Bool.{and_parts, or_cases, or_right}
use Rattle.std.proofs.lemmas.Bool.Decides.{nat_tests}
use Rattle.std.proofs.lemmas.List.{append-nil}
use Rattle.esc_frame.specs.declared.classes.Class.{Class}
use Rattle.esc_frame.specs.declared.classes.Class.TheVariants.{Lead, C0, Bell, Delete, High, Intermediate, Parameter, Introducer, Final, Breaks}
use Rattle.esc_frame.specs.declared.classes.Kind.{Kind}
use Rattle.esc_frame.specs.declared.classes.Kind.TheVariants as kind
use Rattle.esc_frame.specs.Classes.{class_of, AllOf, is_text, is_noise, is_breaker, is_raw, in_escape, in_osc, letter_of}
use Rattle.esc_frame.specs.Limits.{has_few_parts}
use Rattle.esc_frame.specs.Memory.{AreBorrowed, is_borrowed, is_borrowed_osc_unit, has_ended, may_grow}
use Rattle.esc_frame.specs.Segments.{Segment, Opener, OscUnit, Ending, HasShape, IsOpener, AreOscUnits, AreSegments, IsCut, joined_bytes, bytes_of, opener, is_finished}
use Rattle.esc_frame.specs.Segments.{begins_pair, text_of, text_bytes, breaks_text}
use Rattle.esc_frame.specs.Segments.Ending.{Open, Rung, Waits}
use Rattle.esc_frame.specs.Segments.Opener.{Long, Raw, Pair}
use Rattle.esc_frame.specs.Segments.OscUnit.{One, Sequence, BrokenOff}
use Rattle.esc_frame.specs.Segments.Segment.{Character, Wide, Broken, Stray, Control, HighControl, Terminator, CutEscape, Csi, CutCsi, Osc, Apc}
use Rattle.esc_frame.specs.Segments.Segment.{Escape as EscapeOf}
use Rattle.esc_frame.specs.Sequences.{is_sequence, is_prefix, is_pair, is_broken_before, outcome}
use Rattle.esc_frame.specs.Leads.{Unfinished, AreFinished}
use Rattle.esc_frame.specs.Leads.Unfinished.{Ground, Pending, InEscape, InCsi, InOsc, InApc}
use Rattle.esc_frame.specs.Machine.Moves.{after_by, after_all, move_inside, goes_on, pending_move, osc_pending_move, move, is_ground, reaches_growing, passes_osc}
use Rattle.esc_frame.specs.Machine.Moves.{all_pass, borrows}
use Rattle.esc_frame.specs.Stream.{events_within}
use Rattle.esc_frame.proofs.Cut.CutAtGround.{to_ground, from_ground}
use Rattle.esc_frame.proofs.Cut.CutExists.{last_of, cut_last, stands}
use Rattle.esc_frame.proofs.Cut.FirstSegment.{MayFollow}
use Rattle.esc_frame.proofs.Borrow.BytesAreLent.{both, no_if, not_both, passes_append}
use Rattle.esc_frame.proofs.ByteRuns.ManyBytes.{osc_sequence, osc_sequence_passes}
use Rattle.esc_frame.proofs.Limit.GrowingSegments.{grows, cut_grows}
use Rattle.esc_frame.proofs.Cut.CutIsUnique.{head_of, one_cut}
use Rattle.esc_frame.proofs.Emits.EventsAreTheCuts.{after_append}

-- ---- a segment by itself

one_whole : (g : Segment) → HasShape g [] → IsCut (bytes_of g) (g ∷ [])
one_whole g s = record { whole = sym (append-nil (bytes_of g)); each = s }

ground_of : (u : Unfinished) → is_ground u ≡ true → u ≡ Ground
ground_of Ground h = refl
ground_of _ h = absurd cc

-- finished by itself, it leaves nothing unfinished
closed : (g : Segment) → HasShape g [] → is_finished g [] ≡ true
    → after_all Ground (bytes_of g) ≡ Ground
closed g s f = to_ground (bytes_of g) (g ∷ [], one_whole g s, (s, f, tt))

last_in : Segment → List Segment → Segment
last_in g [] = g
last_in g (h ∷ gs) = last_in h gs

last_push : (k : Segment) (gs : List Segment) (g : Segment) → last_in k (gs ++ g ∷ []) ≡ g
unfolding last_in
last_push k [] g = refl
last_push k (h ∷ gs) g = last_push h gs g

-- any other segment is the unfinished one
last_by : (g : Segment) → HasShape g [] → is_finished g [] ≡ false → (t : Bool)
    → is_ground (after_all Ground (bytes_of g)) ≡ t
    → last_of (after_all Ground (bytes_of g)) ≡ g
unfolding last_in
last_by g s n true e =
    let s0 = bytes_of g in
    let w = from_ground s0 (ground_of (after_all Ground s0) e) in
    let f : AreFinished (g ∷ []) [] =
    subst (λ ks. AreFinished ks []) (one_cut s0 w.0 (g ∷ []) w.1 (one_whole g s)) w.2 in
    absurd (not_both (is_finished g []) f.1 n)
last_by g s n false e =
    let s0 = bytes_of g in
    let w = stands None s0 in
    let u = after_all Ground s0 in
    let same = one_cut s0 (w.0 ++ last_of u ∷ []) (g ∷ [])
    (cut_last s0 (events_within None s0) w.0 u e w.1) (one_whole g s) in
    sym (last_push g w.0 (last_of u)) ∙ ap (last_in g) same

open_is : (g : Segment) → HasShape g [] → is_finished g [] ≡ false
    → last_of (after_all Ground (bytes_of g)) ≡ g
open_is g s n = last_by g s n (is_ground (after_all Ground (bytes_of g))) refl

pending_is : (u : Unfinished) (f : List ℕ) → last_of u ≡ Broken f → u ≡ Pending f
pending_is (Pending x) f e = cc
pending_is _ f e = absurd cc

csi_is : (u : Unfinished) (o : Opener) (x : List ℕ) → last_of u ≡ CutCsi o x → u ≡ InCsi o x
csi_is (InCsi p y) o x e = cc
csi_is _ o x e = absurd cc

apc_is : (u : Unfinished) (o : Opener) (d : List ℕ) → last_of u ≡ Apc o d → u ≡ InApc o d
apc_is (InApc p x) o d e = cc
apc_is _ o d e = absurd cc

osc_is : (u : Unfinished) (o : Opener) (ps : List OscUnit) → last_of u ≡ Osc o ps Open
    → u ≡ InOsc o ps
osc_is (InOsc p x) o ps e = cc
osc_is _ o ps e = absurd cc

-- ---- outside of strings every byte passes

reaches_pass : (u : Unfinished) (xs : List ℕ) → reaches_growing u xs ≡ false → all_pass u xs ≡ true
reaches_pass u [] h = refl
reaches_pass Ground (b ∷ xs) h = reaches_pass (after_by Ground b (class_of b)) xs h
reaches_pass (Pending f) (b ∷ xs) h = reaches_pass (after_by (Pending f) b (class_of b)) xs h
reaches_pass (InEscape x) (b ∷ xs) h = reaches_pass (after_by (InEscape x) b (class_of b)) xs h
reaches_pass (InCsi o x) (b ∷ xs) h = reaches_pass (after_by (InCsi o x) b (class_of b)) xs h
reaches_pass _ (b ∷ xs) h = absurd cc

quiet_pass : (g : Segment) → HasShape g [] → may_grow g ≡ false
    → all_pass Ground (bytes_of g) ≡ true
quiet_pass g s n =
    reaches_pass Ground (bytes_of g)
    (no_if (reaches_growing Ground (bytes_of g)) (λ r.
    not_both (may_grow g || false) (cut_grows (bytes_of g) (g ∷ []) (one_whole g s)
    (grows (bytes_of g) r)) (ap (λ t. t || false) n)))

-- ---- openers

noise_in : (c : Class) → is_noise c ≡ true → in_escape c ≡ true
noise_in Intermediate h = refl
noise_in _ h = h

all_in : (n : List ℕ) → AllOf is_noise n → AllOf in_escape n
all_in [] h = refl
all_in (b ∷ n) h =
    let k = and_parts (is_noise (class_of b)) (list_all (λ x. is_noise (class_of x)) n) h in
    both (in_escape (class_of b)) (list_all (λ x. in_escape (class_of x)) n)
    (noise_in (class_of b) k.0) (all_in n k.1)

c2_lead : class_of 0xc2 ≡ Lead
unfolding class_of
c2_lead = refl

opener_pass : (k : Kind) (o : Opener) → IsOpener o → all_pass Ground (opener k o) ≡ true
opener_pass k Raw i = refl
opener_pass k Pair i = rw (c2_lead, after_by, move) refl
opener_pass k (Long n) i =
    let s : HasShape (CutEscape n) [] = all_in n i in
    passes_append Ground (0x1b ∷ n) (letter_of k ∷ [])
    ∙ both (all_pass Ground (0x1b ∷ n)) _ (quiet_pass (CutEscape n) s refl) (last_pass n s)
  where
    not_ground : (u : Unfinished) (n : List ℕ) (t : Bool) → is_ground u ≡ t
        → last_of u ≡ CutEscape n → all_pass u (letter_of k ∷ []) ≡ true
    not_ground Ground n t e h = refl
    not_ground (InEscape x) n t e h = refl
    not_ground _ n t e h = absurd cc

    last_pass : (n : List ℕ) → HasShape (CutEscape n) []
        → all_pass (after_all Ground (0x1b ∷ n)) (letter_of k ∷ []) ≡ true
    last_pass n s = not_ground (after_all Ground (0x1b ∷ n)) n _ refl (open_is (CutEscape n) s refl)

apc_opened : (o : Opener) → IsOpener o → after_all Ground (opener kind.Apc o) ≡ InApc o []
apc_opened o i =
    ap (after_all Ground) (sym (append-nil (opener kind.Apc o)))
    ∙ apc_is (after_all Ground (bytes_of (Apc o []))) o [] (open_is (Apc o []) (i, refl) refl)

osc_opened : (o : Opener) → IsOpener o → after_all Ground (opener kind.Osc o) ≡ InOsc o []
osc_opened o i =
    ap (after_all Ground) (sym (append-nil (opener kind.Osc o))
    ∙ sym (append-nil (opener kind.Osc o ++ [])))
    ∙ osc_is (after_all Ground (bytes_of (Osc o [] Open))) o [] (open_is (Osc o [] Open) (
      i,
      tt,
      tt,
    ) refl)

-- ---- the text of a string

text_breaks_not : (c : Class) → is_text c ≡ true → is_breaker c ≡ false
text_breaks_not Intermediate h = refl
text_breaks_not Parameter h = refl
text_breaks_not (Introducer k) h = refl
text_breaks_not Final h = refl
text_breaks_not Delete h = refl
text_breaks_not _ h = absurd cc

text_in_osc : (c : Class) → is_text c ≡ true → in_osc c ≡ true
text_in_osc C0 h = refl
text_in_osc High h = refl
text_in_osc _ h = h

text_passes : (ps : List OscUnit) (c : Class) → is_text c ≡ true → passes_osc ps c ≡ true
text_passes ps Intermediate h = refl
text_passes ps Parameter h = refl
text_passes ps (Introducer k) h = refl
text_passes ps Final h = refl
text_passes ps Delete h = refl
text_passes ps _ h = absurd cc

end_passes : (ps : List OscUnit) (c : Class) → is_breaker c ≡ true → has_few_parts (text_of ps)
    ≡ true
    → passes_osc ps c ≡ true
end_passes ps (Breaks k) h f = f
end_passes ps _ h f = absurd cc

apc_pass : (o : Opener) (e d : List ℕ) → AllOf is_text d → all_pass (InApc o e) d ≡ true
apc_pass o e [] h = refl
apc_pass o e (b ∷ d) h =
    let k = and_parts (is_text (class_of b)) (list_all (λ x. is_text (class_of x)) d) h in
    rw (
      k.0,
      text_breaks_not (class_of b) k.0,
      after_by,
      move,
      move_inside,
      goes_on,
    ) (apc_pass o (e ++ b ∷ []) d k.1)

osc_pass : (o : Opener) (qs ps : List OscUnit) (r : List ℕ) → AreOscUnits ps r
    → list_all is_borrowed_osc_unit ps ≡ true
    → (all_pass (InOsc o qs) (text_bytes ps) ≡ true)
    × (after_all (InOsc o qs) (text_bytes ps) ≡ InOsc o (qs ++ ps))
osc_pass o qs [] r a h = (refl, ap (InOsc o) (sym (append-nil qs)))
osc_pass o qs (One b ∷ ps) r a h =
    let k = and_parts (is_text (class_of b)) (list_all is_borrowed_osc_unit ps) h in
    let q = osc_pass o (qs ++ One b ∷ []) ps r a.1 k.1 in
    let p = text_passes qs (class_of b) k.0 in
    rw (
      p,
      text_breaks_not (class_of b) k.0,
      text_in_osc (class_of b) k.0,
      after_by,
      move,
      move_inside,
      goes_on,
    )
    (q.0, q.1 ∙ ap (InOsc o) (append_assoc qs (One b ∷ []) ps))
osc_pass o qs (Sequence x ∷ ps) r a h =
    let k = and_parts true (list_all is_borrowed_osc_unit ps) h in
    let q = osc_pass o (qs ++ Sequence x ∷ []) ps r a.1 k.1 in
    let e = (osc_sequence None o qs x a.0.0 a.0.1).0 in (
      passes_append (InOsc o qs) x (text_bytes ps)
          ∙ both (all_pass (InOsc o qs) x) _ (osc_sequence_passes o qs x a.0.0 a.0.1)
          (ap (λ u. all_pass u (text_bytes ps)) e ∙ q.0),
      after_append (InOsc o qs) x (text_bytes ps) ∙ ap (λ u. after_all u (text_bytes ps)) e ∙ q.1
          ∙ ap (InOsc o) (append_assoc qs (Sequence x ∷ []) ps),
    )
osc_pass o qs (BrokenOff x ∷ ps) r a h = absurd cc

-- ---- bytes after a segment that does not end itself

pair_facts : (b : ℕ) → is_raw (class_of b) ≡ true → (is_sequence (0xc2 ∷ b ∷ []) ≡ true)
    × (is_pair (0xc2 ∷ b ∷ []) ≡ true)
unfolding class_of is_sequence is_pair
pair_facts b h = (grind (arith, nat_tests), grind (arith, nat_tests))

not_either : (s f : Bool) → not (s || f) ≡ true → (s ≡ false) × (f ≡ false)
not_either true f h = absurd cc
not_either false true h = absurd cc
not_either false false h = (refl, refl)

broken_on : (f : List ℕ) (b : ℕ) (r : List ℕ) → is_broken_before f (b ∷ r) ≡ true
    → all_pass Ground (b ∷ r) ≡ true → all_pass (Pending f) (b ∷ r) ≡ true
broken_on f b r h p =
    let k = not_either (is_sequence (f ++ b ∷ [])) (is_prefix (f ++ b ∷ [])) h in
    rw (k.0, k.1, after_by, move, pending_move, outcome) p

escape_on : (x : List ℕ) (b : ℕ) (r : List ℕ) → is_breaker (class_of b) ≡ true
    → all_pass Ground (b ∷ r) ≡ true → all_pass (InEscape x) (b ∷ r) ≡ true
escape_on x b r h p = rw (h, after_by, move, move_inside) p

csi_on : (o : Opener) (x : List ℕ) (b : ℕ) (r : List ℕ) → is_breaker (class_of b) ≡ true
    → all_pass Ground (b ∷ r) ≡ true → all_pass (InCsi o x) (b ∷ r) ≡ true
csi_on o x b r h p = rw (h, after_by, move, move_inside) p

apc_on : (o : Opener) (d : List ℕ) (b : ℕ) (r : List ℕ) → is_breaker (class_of b) ≡ true
    → all_pass Ground (b ∷ r) ≡ true → all_pass (InApc o d) (b ∷ r) ≡ true
apc_on o d b r h p =
    let e : (is_text (class_of b) || is_breaker (class_of b)) ≡ true =
    or_right (is_text (class_of b)) (is_breaker (class_of b)) h in
    rw (e, h, after_by, move, move_inside) p

is_c2 : (b : ℕ) → (b == 0xc2) ≡ true → 0xc2 ≡ b
is_c2 b h = grind (arith, nat_tests)

pair_on : (o : Opener) (ps : List OscUnit) (r : List ℕ) → has_few_parts (text_of ps) ≡ true
    → begins_pair r ≡ true → all_pass Ground (0xc2 ∷ r) ≡ true
    → all_pass (InOsc o ps) (0xc2 ∷ r) ≡ true
pair_on o ps [] few h p = absurd cc
pair_on o ps (b ∷ r) few h p =
    let k = pair_facts b h in
    let go : all_pass Ground (0xc2 ∷ b ∷ r) ≡ true → all_pass (InOsc o ps) (0xc2 ∷ b ∷ r) ≡ true =
    rw (
      c2_lead,
      k.0,
      k.1,
      few,
      after_by,
      move,
      move_inside,
      goes_on,
      pending_move,
      osc_pending_move,
      outcome,
    ) (λ q. q) in go p

osc_on : (o : Opener) (ps : List OscUnit) (b : ℕ) (r : List ℕ) → has_few_parts (text_of ps) ≡ true
    → breaks_text (b ∷ r) ≡ true
    → all_pass Ground (b ∷ r) ≡ true → all_pass (InOsc o ps) (b ∷ r) ≡ true
osc_on o ps b r few h p =
    elim (or_cases (is_breaker (class_of b)) ((b == 0xc2) && begins_pair r) h) [
      | inl k ↦ rw (end_passes ps (class_of b) k few, k, after_by, move, move_inside) p
      | inr k ↦
          let q = and_parts (b == 0xc2) (begins_pair r) k in
          let e = is_c2 b q.0 in
          subst (λ x. all_pass (InOsc o ps) (x ∷ r) ≡ true) e
          (pair_on o ps r few q.1 (subst (λ x. all_pass Ground (x ∷ r) ≡ true) (sym e) p))
    ]

-- ---- segment after segment

-- says that the bytes of a segment pass if those after it do
abbrev Goes : Segment → List ℕ → Type 0
Goes g r = all_pass Ground r ≡ true → all_pass Ground (bytes_of g ++ r) ≡ true

goes_by : (g : Segment) (r : List ℕ) (v : Unfinished) → all_pass Ground (bytes_of g) ≡ true
    → after_all Ground (bytes_of g) ≡ v
    → (all_pass Ground r ≡ true → all_pass v r ≡ true) → Goes g r
goes_by g r v p e f h =
    passes_append Ground (bytes_of g) r
    ∙ both (all_pass Ground (bytes_of g)) (all_pass (after_all Ground (bytes_of g)) r) p
    (ap (λ u. all_pass u r) e ∙ f h)

-- one that ends itself
goes_closed : (g : Segment) (r : List ℕ) → HasShape g [] → is_finished g [] ≡ true
    → may_grow g ≡ false → Goes g r
goes_closed g r s f n = goes_by g r Ground (quiet_pass g s n) (closed g s f) (λ h. h)

goes_broken : (f r : List ℕ) → HasShape (Broken f) [] → MayFollow (Broken f) r → Goes (Broken f) r
goes_broken f [] s m =
    goes_by (Broken f) [] (Pending f) (quiet_pass (Broken f) s refl)
    (pending_is (after_all Ground f) f (open_is (Broken f) s refl)) (λ h. refl)
goes_broken f (b ∷ r) s m =
    goes_by (Broken f) (b ∷ r) (Pending f) (quiet_pass (Broken f) s refl)
    (pending_is (after_all Ground f) f (open_is (Broken f) s refl)) (broken_on f b r m)

cut_escape_is : (x : List ℕ) → HasShape (CutEscape x) [] → (u : Unfinished)
    → last_of u ≡ CutEscape x → (u ≡ Ground → ⊥) → u ≡ InEscape x
cut_escape_is x s Ground e n = absurd (n refl)
cut_escape_is x s (InEscape y) e n = cc
cut_escape_is x s _ e n = absurd cc

goes_cut : (x r : List ℕ) → HasShape (CutEscape x) [] → MayFollow (CutEscape x) r
    → Goes (CutEscape x) r
goes_cut x r s m =
    let u = after_all Ground (0x1b ∷ x) in
    goes_by (CutEscape x) r (InEscape x) (quiet_pass (CutEscape x) s refl)
    (cut_escape_is x s u (open_is (CutEscape x) s refl) (λ e.
    closed_not (from_ground (0x1b ∷ x) e))) (on r m)
  where
    closed_not : ((gs : List Segment) × IsCut (0x1b ∷ x) gs × AreFinished gs []) → ⊥
    closed_not (gs, c, f) =
        let k : AreFinished (CutEscape x ∷ []) [] =
        subst (λ ks.
        AreFinished ks [])
        (one_cut (0x1b ∷ x) gs (CutEscape x ∷ []) c (one_whole (CutEscape x) s)) f in
        let no : false ≡ true = k.1 in cc

    on : (r : List ℕ) → MayFollow (CutEscape x) r → all_pass Ground r ≡ true
        → all_pass (InEscape x) r ≡ true
    on [] m h = refl
    on (b ∷ r) m h = escape_on x b r m h

goes_cut_csi : (o : Opener) (x r : List ℕ) → HasShape (CutCsi o x) [] → MayFollow (CutCsi o x) r
    → Goes (CutCsi o x) r
goes_cut_csi o x r s m =
    goes_by (CutCsi o x) r (InCsi o x) (quiet_pass (CutCsi o x) s refl)
    (csi_is (after_all Ground (bytes_of (CutCsi o x))) o x (open_is (CutCsi o x) s refl)) (on r m)
  where
    on : (r : List ℕ) → MayFollow (CutCsi o x) r → all_pass Ground r ≡ true
        → all_pass (InCsi o x) r ≡ true
    on [] m h = refl
    on (b ∷ r) m h = csi_on o x b r m h

goes_apc : (o : Opener) (d r : List ℕ) → IsOpener o → AllOf is_text d → HasShape (Apc o d) []
    → MayFollow (Apc o d) r → Goes (Apc o d) r
goes_apc o d r i t s m =
    goes_by (Apc o d) r (InApc o d)
    (passes_append Ground (opener kind.Apc o) d
    ∙ both (all_pass Ground (opener kind.Apc o)) _ (opener_pass kind.Apc o i)
    (ap (λ u. all_pass u d) (apc_opened o i) ∙ apc_pass o [] d t))
    (apc_is (after_all Ground (bytes_of (Apc o d))) o d (open_is (Apc o d) s refl)) (on r m)
  where
    on : (r : List ℕ) → MayFollow (Apc o d) r → all_pass Ground r ≡ true
        → all_pass (InApc o d) r ≡ true
    on [] m h = refl
    on (b ∷ r) m h = apc_on o d b r m h

osc_bytes : (o : Opener) (ps : List OscUnit) (e r : List ℕ) → IsOpener o → AreOscUnits ps r
    → list_all is_borrowed_osc_unit ps ≡ true → all_pass (InOsc o ps) e ≡ true
    → (all_pass Ground (opener kind.Osc o ++ text_bytes ps ++ e) ≡ true)
    × (after_all Ground (opener kind.Osc o ++ text_bytes ps ++ e) ≡ after_all (InOsc o ps) e)
osc_bytes o ps e r i a l h =
    let t = osc_pass o [] ps r a l in
    let xs : List ℕ = text_bytes ps ++ e in
    let inner : all_pass (InOsc o []) xs ≡ true = passes_append (InOsc o []) (text_bytes ps) e
    ∙ both (all_pass (InOsc o []) (text_bytes ps)) _ t.0
    (ap (λ u. all_pass u e) t.1 ∙ h) in
    let all = append_assoc (opener kind.Osc o) (text_bytes ps) e in (
      ap (all_pass Ground) all ∙ passes_append Ground (opener kind.Osc o) xs
          ∙ both (all_pass Ground (opener kind.Osc o)) _ (opener_pass kind.Osc o i)
          (ap (λ u. all_pass u xs) (osc_opened o i) ∙ inner),
      ap (after_all Ground) all ∙ after_append Ground (opener kind.Osc o) xs
          ∙ ap (λ u. after_all u xs) (osc_opened o i)
          ∙ after_append (InOsc o []) (text_bytes ps) e
          ∙ ap (λ u. after_all u e) t.1,
    )

bell_class : class_of 0x07 ≡ Bell
unfolding class_of
bell_class = refl

goes_osc : (o : Opener) (ps : List OscUnit) (e : Ending) (r : List ℕ) → HasShape (Osc o ps e) r
    → list_all is_borrowed_osc_unit ps ≡ true
    → has_few_parts (text_of ps) ≡ true → has_ended e ≡ true → MayFollow (Osc o ps e) r
    → Goes (Osc o ps e) r
goes_osc o ps (Waits f) r s l few w m = absurd cc
goes_osc o ps Rung r s l few w m =
    let rung : (all_pass (InOsc o ps) (0x07 ∷ []) ≡ true)
    × (after_all (InOsc o ps) (0x07 ∷ []) ≡ Ground) =
    rw (bell_class, few, after_by, move, move_inside, goes_on)
    (refl, refl) in
    let b = osc_bytes o ps (0x07 ∷ []) (0x07 ∷ r) s.0 s.1 l rung.0 in
    goes_by (Osc o ps Rung) r Ground b.0 (b.1 ∙ rung.1) (λ h. h)
goes_osc o ps Open [] s l few w m = let b = osc_bytes o ps [] [] s.0 s.1 l refl in
    goes_by (Osc o ps Open) [] (InOsc o ps) b.0 b.1 (λ h. refl)
goes_osc o ps Open (c ∷ r) s l few w m =
    let b = osc_bytes o ps [] (c ∷ r) s.0 s.1 l refl in
    goes_by (Osc o ps Open) (c ∷ r) (InOsc o ps) b.0 b.1 (osc_on o ps c r few m)

segment_goes : (g : Segment) (r : List ℕ) → HasShape g r → MayFollow g r → is_borrowed g ≡ true
    → Goes g r
segment_goes (Character b) r s m l = goes_closed (Character b) r s refl refl
segment_goes (Wide x) r s m l = goes_closed (Wide x) r s refl refl
segment_goes (Stray b) r s m l = goes_closed (Stray b) r s refl refl
segment_goes (Control b) r s m l = goes_closed (Control b) r s refl refl
segment_goes (HighControl p b) r s m l = goes_closed (HighControl p b) r s refl refl
segment_goes (Terminator p b) r s m l = goes_closed (Terminator p b) r s refl refl
segment_goes (EscapeOf x f) r s m l = goes_closed (EscapeOf x f) r s refl refl
segment_goes (Broken f) r s m l = goes_broken f r s m
segment_goes (CutEscape x) r s m l = goes_cut x r s m
segment_goes (Csi o x f) r s m l = goes_closed (Csi o x f) r s refl refl
segment_goes (CutCsi o x) r s m l = goes_cut_csi o x r s m
segment_goes (Apc o d) r s m l = goes_apc o d r s.0 l s m
segment_goes (Osc o ps e) r s m l =
    let k = and_parts (list_all is_borrowed_osc_unit ps && has_few_parts (text_of ps))
    (has_ended e) l in
    let j = and_parts (list_all is_borrowed_osc_unit ps) (has_few_parts (text_of ps)) k.0 in
    goes_osc o ps e r s j.0 j.1 k.1 m
segment_goes _ r s m l = absurd cc

cut_passes : (gs : List Segment) → AreSegments gs → list_all is_borrowed gs ≡ true
    → all_pass Ground (joined_bytes gs) ≡ true
cut_passes [] a l = refl
cut_passes (g ∷ gs) a l =
    let h = head_of g gs a in
    let k = and_parts (is_borrowed g) (list_all is_borrowed gs) l in
    segment_goes g (joined_bytes gs) h.0 h.1 k.0 (cut_passes gs h.2 k.1)

pub borrowed_borrows : (b : List ℕ) → AreBorrowed b → borrows Ground b ≡ true
borrowed_borrows b (gs, cut, fin, l) =
    both (all_pass Ground b) (is_ground (after_all Ground b)) (ap (all_pass Ground) cut.whole
    ∙ cut_passes gs cut.each l)
    (ap is_ground (to_ground b (gs, cut, fin)))
