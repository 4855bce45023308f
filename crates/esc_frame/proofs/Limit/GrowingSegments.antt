-- Which streams may make a parser's memory grow: those whose cut holds such a segment, and all that
-- begin with one of them.
use Rattle.std.proofs.Common.{ℕ, Option, None, ◌≡◌, Bool, true, false, if◌then◌else◌, List, [], ◌∷◌, ◌++◌, refl, ap, sym, ◌∙◌, subst, append_assoc, ◌⊎◌, inl}
use Rattle.std.proofs.Common.{inr}
use Rattle.std.specs.List.{list_any}
use Rattle.std.proofs.lemmas.List.{append-nil}
use Rattle.std.proofs.lemmas.Bool.{or_cases, or_left, or_right}
use Rattle.esc_frame.specs.declared.classes.Kind.{Kind}
use Rattle.esc_frame.specs.declared.classes.Kind.TheVariants as kind
use Rattle.esc_frame.specs.Classes.{class_of, is_breaker, is_ignored, in_data}
use Rattle.esc_frame.specs.Events.{Event}
use Rattle.esc_frame.specs.Segments.{Segment, Opener, HasShape, IsOpener, AreSegments, IsCut, joined_bytes, bytes_of, text_bytes, ending_bytes, opener}
use Rattle.esc_frame.specs.Segments.Segment.{CutCsi, CutDcs, Csi, Osc, Dcs, Apc}
use Rattle.esc_frame.specs.Segments.Segment.{Ignored}
use Rattle.esc_frame.specs.Segments.Opener.{Long, Raw, Pair}
use Rattle.esc_frame.specs.Memory.{may_grow, MayGrow, may_take, MayTake}
use Rattle.esc_frame.specs.Leads.{Unfinished, HasCut, AreFinished}
use Rattle.esc_frame.specs.Leads.Unfinished.{Ground, Pending, InEscape, InCsi}
use Rattle.esc_frame.specs.Machine.Moves.{after_by, after_all, may_grow_in, reaches_growing}
use Rattle.esc_frame.specs.Stream.{events}
use Rattle.esc_frame.proofs.Steps.CutGrows.{finished_before}
use Rattle.esc_frame.proofs.Cut.CutExists.{has_cut, last_of, cut_last, stands}
use Rattle.esc_frame.proofs.Cut.FirstSegment.{Found, found, first, first_is, opened_first, opener_first, csi_of, dcs_of, prefix}
use Rattle.esc_frame.proofs.Cut.FirstSegment.Found.{OneSegment, OscAfter}
use Rattle.esc_frame.proofs.Cut.CutIsUnique.{head_of, one_cut}
use Rattle.esc_frame.proofs.Emits.EventsAreTheCuts.{after_append}

-- ---- segments that may grow; and control sequences, for which an actor may be given a list

abbrev holds : Bool → Segment → Bool
holds w (Csi _ _ _) = w
holds w (CutCsi _ _) = w
holds w (Osc _ _ _) = true
holds w (Dcs _ _ _ _) = true
holds w (Apc _ _) = true
holds w (Ignored _ _ _) = true
holds w (CutDcs _ _) = true
holds w _ = false

one_grows : (g : Segment) → may_grow g ≡ holds false g
one_grows _ = refl

one_takes : (g : Segment) → may_take g ≡ holds true g
one_takes _ = refl

all_grow : (gs : List Segment) → list_any may_grow gs ≡ list_any (holds false) gs
all_grow [] = refl
all_grow (g ∷ gs) = rw (one_grows g, all_grow gs) refl

all_take : (gs : List Segment) → list_any may_take gs ≡ list_any (holds true) gs
all_take [] = refl
all_take (g ∷ gs) = rw (one_takes g, all_take gs) refl

abbrev opens_one : Bool → Kind → Bool
opens_one w kind.Csi = w
opens_one w _ = true

ignored_opens : (w : Bool) (k : Kind) → is_ignored k ≡ true → opens_one w k ≡ true
ignored_opens w kind.Sos h = refl
ignored_opens w kind.Pm h = refl
ignored_opens w _ h = absurd cc

abbrev is_cons : List ℕ → Bool
is_cons [] = false
is_cons (_ ∷ _) = true

opener_cons : (k : Kind) (o : Opener) (r : List ℕ) → is_cons (opener k o ++ r) ≡ true
opener_cons k (Long n) r = refl
opener_cons k Raw r = refl
opener_cons k Pair r = refl

not_none : (k : Kind) (o : Opener) (r : List ℕ) → [] ≡ opener k o ++ r → ⊥
not_none k o r e = let h : false ≡ true = ap is_cons e ∙ opener_cons k o r in cc

finished_before_all : (gs : List Segment) (u t : List ℕ) → AreFinished gs t
    → AreFinished gs (t ++ u)
finished_before_all gs [] t h = subst (λ x. AreFinished gs x) (sym (append-nil t)) h
finished_before_all gs (b ∷ u) t h =
    subst (λ x. AreFinished gs x) (append_assoc t (b ∷ []) u)
    (finished_before_all gs u (t ++ b ∷ []) (finished_before gs t b h))

module _ (w : Bool) where
  -- the cut holds one
  abbrev Holding : List ℕ → Type 0
  Holding s = (gs : List Segment) × IsCut s gs × (list_any (holds w) gs ≡ true)

  -- ---- the segments that an opener begins

  -- such a segment begins with an opener
  abbrev Opened : Segment → Type 0
  Opened g = (k : Kind) × (o : Opener) × (r : List ℕ) × IsOpener o × (bytes_of g ≡ opener k o ++ r)
      × (opens_one w k ≡ true)

  holds_opened : (g : Segment) (after : List ℕ) → HasShape g after → holds w g ≡ true → Opened g
  holds_opened (Csi o x f) after s h =
      (kind.Csi, o, x ++ f ∷ [], s.0, append_assoc (opener kind.Csi o) x (f ∷ []), h)
  holds_opened (Osc o ps e) after s h = (
    kind.Osc,
    o,
    text_bytes ps ++ ending_bytes e,
    s.0,
    append_assoc (opener kind.Osc o) (text_bytes ps) (ending_bytes e),
    refl,
  )
  holds_opened (Dcs o x f d) after s h = (
    kind.Dcs,
    o,
    (x ++ f ∷ []) ++ d,
    s.0,
    ap (λ y. y ++ d) (append_assoc (opener kind.Dcs o) x (f ∷ []))
        ∙ append_assoc (opener kind.Dcs o) (x ++ f ∷ []) d,
    refl,
  )
  holds_opened (Apc o d) after s h = (kind.Apc, o, d, s.0, refl, refl)
  holds_opened (Ignored k o d) after s h = (k, o, d, s.1, refl, ignored_opens w k s.0)
  holds_opened (CutCsi o x) after s h = (kind.Csi, o, x, s.0, refl, h)
  holds_opened (CutDcs o x) after s h = (kind.Dcs, o, x, s.0, refl, refl)
  holds_opened _ after s h = absurd cc

  -- and an opener begins such a segment
  abbrev found_holds : Found → Bool
  found_holds (OneSegment g) = holds w g
  found_holds (OscAfter o r) = true

  if_both : (t : Bool) (g h : Segment) → holds w g ≡ true → holds w h ≡ true
      → found_holds (if t then OneSegment g else OneSegment h) ≡ true
  if_both true g h e f = e
  if_both false g h e f = f

  csi_holds : (o : Opener) (x r : List ℕ) → w ≡ true → found_holds (csi_of o x r) ≡ true
  csi_holds o x [] e = e
  csi_holds o x (f ∷ r) e = if_both (is_breaker (class_of f)) (CutCsi o x) (Csi o x f) e e

  dcs_holds : (o : Opener) (x r : List ℕ) → found_holds (dcs_of o x r) ≡ true
  dcs_holds o x [] = refl
  dcs_holds o x (f ∷ r) =
      if_both (is_breaker (class_of f)) (CutDcs o x) (Dcs o x f (prefix in_data r)) refl refl

  opened_holds : (k : Kind) (o : Opener) (r : List ℕ) → opens_one w k ≡ true
      → found_holds (opened_first k o r) ≡ true
  opened_holds kind.Csi o r e = csi_holds o _ _ e
  opened_holds kind.Osc o r e = refl
  opened_holds kind.Dcs o r e = dcs_holds o _ _
  opened_holds kind.Sos o r e = refl
  opened_holds kind.Pm o r e = refl
  opened_holds kind.Apc o r e = refl

  found_is : (g : Segment) (r : List ℕ) → found_holds (found g r) ≡ holds w g
  found_is (Osc o ps e) r = refl
  found_is _ r = refl

  -- the first segment after an opener is one
  first_holds : (k : Kind) (o : Opener) (r : List ℕ) (gs : List Segment) → opens_one w k ≡ true
      → IsOpener o → AreSegments gs
      → joined_bytes gs ≡ opener k o ++ r → list_any (holds w) gs ≡ true
  first_holds k o r [] y h a e = absurd (not_none k o r e)
  first_holds k o r (g ∷ gs) y h a e =
      let p = head_of g gs a in
      let same : found g (joined_bytes gs) ≡ opened_first k o r =
      sym (first_is g (joined_bytes gs) p.0 p.1) ∙ ap first e ∙ opener_first k o r h in
      let one : holds w g ≡ true =
      sym (found_is g (joined_bytes gs)) ∙ ap found_holds same ∙ opened_holds k o r y in
      or_left (holds w g) (list_any (holds w) gs) one

  opens_hold : (k : Kind) (o : Opener) (r : List ℕ) → opens_one w k ≡ true → IsOpener o
      → Holding (opener k o ++ r)
  opens_hold k o r y h = let c = has_cut (opener k o ++ r) in
      (c.0, c.1, first_holds k o r c.0 y h c.1.each (sym c.1.whole))

  -- ---- more bytes

  -- a finished segment before a stream that holds one
  cut_cons : (g : Segment) (hs : List Segment) → AreFinished (g ∷ []) (joined_bytes hs)
      → AreSegments hs
      → list_any (holds w) hs ≡ true → AreSegments (g ∷ hs)
  cut_cons g [] f a h = absurd cc
  cut_cons g (k ∷ hs) f a h = (f.0, f.1, a)

  holds_after : (g : Segment) (s : List ℕ) → AreFinished (g ∷ []) s → Holding s
      → Holding (bytes_of g ++ s)
  holds_after g s f (hs, cut, h) = (
    g ∷ hs,
    record {
      whole = ap (λ x. bytes_of g ++ x) cut.whole;
      each = cut_cons g hs (subst (λ x. AreFinished (g ∷ []) x) cut.whole f) cut.each h;
    },
    or_right (holds w g) (list_any (holds w) hs) h,
  )

  -- by the first of them
  more_by : (g : Segment) (gs : List Segment) (t : List ℕ) → AreSegments (g ∷ gs)
      → ((holds w g ≡ true) ⊎ ((list_any (holds w) gs ≡ true) × Holding (joined_bytes gs ++ t)))
      → Holding (bytes_of g ++ (joined_bytes gs ++ t))
  more_by g gs t a (inl h) =
      let p = holds_opened g (joined_bytes gs) (head_of g gs a).0 h in
      let e : opener p.0 p.1 ++ (p.2 ++ (joined_bytes gs ++ t)) ≡ bytes_of g
      ++ (joined_bytes gs ++ t) =
      sym (append_assoc (opener p.0 p.1) p.2 (joined_bytes gs ++ t)) ∙ ap
      (λ x. x ++ (joined_bytes gs ++ t)) (sym p.4) in
      subst Holding e (opens_hold p.0 p.1 (p.2 ++ (joined_bytes gs ++ t)) p.5 p.3)
  more_by g [] t a (inr h) = let e : false ≡ true = h.0 in absurd cc
  more_by g (k ∷ gs) t a (inr h) =
      holds_after g (joined_bytes (k ∷ gs) ++ t)
      (finished_before_all (g ∷ []) t (joined_bytes (k ∷ gs)) (
        a.0,
        a.1,
        tt,
      )) h.1

  more_in : (gs : List Segment) (t : List ℕ) → AreSegments gs → list_any (holds w) gs ≡ true
      → Holding (joined_bytes gs ++ t)
  more_in [] t a h = absurd cc
  more_in (g ∷ gs) t a h =
      let rests = (head_of g gs a).2 in
      subst Holding (sym (append_assoc (bytes_of g) (joined_bytes gs) t))
      (more_by g gs t a (elim (or_cases (holds w g) (list_any (holds w) gs) h) [
        | inl e ↦ inl e
        | inr e ↦ inr (e, more_in gs t rests e)
      ]))

  more_holds : (s t : List ℕ) → Holding s → Holding (s ++ t)
  more_holds s t (gs, cut, h) =
      subst (λ x. Holding (x ++ t)) (sym cut.whole) (more_in gs t cut.each h)

-- a stream that begins with such a stream is one
pub more_grows : (s t : List ℕ) → MayGrow s → MayGrow (s ++ t)
more_grows s t (gs, cut, h) = let m = more_holds false s t (gs, cut, sym (all_grow gs) ∙ h) in
    (m.0, m.1, all_grow m.0 ∙ m.2)

pub more_takes : (s t : List ℕ) → MayTake s → MayTake (s ++ t)
more_takes s t (gs, cut, h) = let m = more_holds true s t (gs, cut, sym (all_take gs) ∙ h) in
    (m.0, m.1, all_take m.0 ∙ m.2)

-- any cut of the stream emits
pub cut_grows : (s : List ℕ) (gs : List Segment) → IsCut s gs → MayGrow s
    → list_any may_grow gs ≡ true
cut_grows s gs cut (hs, other, h) = ap (list_any may_grow) (one_cut s gs hs cut other) ∙ h

pub cut_takes : (s : List ℕ) (gs : List Segment) → IsCut s gs → MayTake s
    → list_any may_take gs ≡ true
cut_takes s gs cut (hs, other, h) = ap (list_any may_take) (one_cut s gs hs cut other) ∙ h

-- an actor may be given a list for a stream that may grow
some_take : (gs : List Segment) → list_any may_grow gs ≡ true → list_any may_take gs ≡ true
some_take [] h = absurd cc
some_take (g ∷ gs) h = elim (or_cases (may_grow g) (list_any may_grow gs) h) [
  | inl e ↦ or_left (may_take g) (list_any may_take gs) (one_take g e)
  | inr e ↦ or_right (may_take g) (list_any may_take gs) (some_take gs e)
]
  where
    one_take : (g : Segment) → may_grow g ≡ true → may_take g ≡ true
    one_take (Csi o x f) e = refl
    one_take (CutCsi o x) e = refl
    one_take _ e = e

pub grows_takes : (s : List ℕ) → MayGrow s → MayTake s
grows_takes s (gs, cut, h) = (gs, cut, some_take gs h)

-- ---- the machine

last_grows : (gs : List Segment) (g : Segment) → may_grow g ≡ true
    → list_any may_grow (gs ++ g ∷ []) ≡ true
last_grows [] g h = or_left (may_grow g) false h
last_grows (k ∷ gs) g h =
    or_right (may_grow k) (list_any may_grow (gs ++ g ∷ [])) (last_grows gs g h)

-- where a byte may make the machine's memory grow, the unfinished segment is such a one
open_grows : {limit : Option ℕ} (s : List ℕ) (es : List Event) (gs : List Segment) (u : Unfinished)
    → HasCut limit s es gs u → may_grow_in u ≡ true → MayGrow s
open_grows s es gs Ground st h = absurd cc
open_grows s es gs (Pending f) st h = absurd cc
open_grows s es gs (InEscape x) st h = absurd cc
open_grows s es gs (InCsi o x) st h = absurd cc
open_grows s es gs u st h =
    (gs ++ last_of u ∷ [], cut_last s es gs u refl st, last_grows gs (last_of u) refl)

-- where one of these bytes after s may make it grow, s and they are such a stream
pub grows_added : (s b : List ℕ) → reaches_growing (after_all Ground s) b ≡ true → MayGrow (s ++ b)
grows_added s [] h = absurd cc
grows_added s (c ∷ b) h =
    let u = after_all Ground s in
    elim (or_cases (may_grow_in u) (reaches_growing (after_by u c (class_of c)) b) h) [
      | inl e ↦ let w = stands None s in more_grows s (c ∷ b) (open_grows s (events s) w.0 u w.1 e)
      | inr e ↦ subst MayGrow (append_assoc s (c ∷ []) b)
          (grows_added (s ++ c ∷ []) b
          (ap (λ v. reaches_growing v b) (after_append Ground s (c ∷ [])) ∙ e))
    ]

pub grows : (s : List ℕ) → reaches_growing Ground s ≡ true → MayGrow s
grows s h = grows_added [] s h
