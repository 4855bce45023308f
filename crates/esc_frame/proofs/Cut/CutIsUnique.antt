-- A stream has one cut: its first segment is determined by its bytes.
use Rattle.std.proofs.Common.{ℕ, ◌≡◌, true, false, List, [], ◌∷◌, ◌++◌, refl, ap, sym, ◌∙◌, subst, append_assoc, ◌⊎◌, inl, inr, Option}
use Rattle.std.proofs.lemmas.List.{append_cancel_left}
use Rattle.esc_frame.specs.declared.classes.Kind.{Kind}
use Rattle.esc_frame.specs.declared.classes.Kind.TheVariants as kind
use Rattle.esc_frame.specs.Events.{Event}
use Rattle.esc_frame.specs.Segments.{Segment, Opener, OscUnit, Ending, HasShape, AreSegments, IsCut, HasEventsWithin, events_of_cut_within, joined_bytes, bytes_of}
use Rattle.esc_frame.specs.Segments.{text_bytes}
use Rattle.esc_frame.specs.Segments.{ending_bytes, is_finished, opener}
use Rattle.esc_frame.specs.Segments.Segment.{Wide, Broken, HighControl, Terminator, CutCsi, CutDcs, Csi, Osc, Dcs, Apc}
use Rattle.esc_frame.specs.Segments.Segment.{Ignored}
use Rattle.esc_frame.specs.Segments.Opener.{Long, Raw, Pair}
use Rattle.esc_frame.specs.Segments.Ending.{Open, Rung, Waits}
use Rattle.esc_frame.proofs.Cut.FirstSequence.{lead_of, prefix_lead, sequence_lead}
use Rattle.esc_frame.proofs.Cut.UnitsAreDetermined.{MayEnd, units_same}
use Rattle.esc_frame.proofs.Cut.FirstSegment.{Found, MayFollow, found, first, first_is, is_cons}
use Rattle.esc_frame.proofs.Cut.FirstSegment.Found.{OneSegment, OscAfter}

-- an OSC, or found whole
abbrev pub OscOrWhole : Segment → Type 0
OscOrWhole g = ((o : Opener) × (ps : List OscUnit) × (e : Ending) × (g ≡ Osc o ps e))
    ⊎ ((r : List ℕ) → found g r ≡ OneSegment g)

osc_or_whole : (g : Segment) → OscOrWhole g
osc_or_whole (Osc o ps e) = inl (o, ps, e, refl)
osc_or_whole _ = inr (λ r. refl)

may_end : (o : Opener) (ps : List OscUnit) (e : Ending) (r : List ℕ) → MayFollow (Osc o ps e) r
    → MayEnd e r
may_end o ps Open [] m = tt
may_end o ps Open (b ∷ r) m = m
may_end o ps Rung r m = tt
may_end o ps (Waits f) [] m = refl
may_end o ps (Waits f) (b ∷ r) m = absurd cc

abbrev opener_in : Found → Opener
opener_in (OscAfter o r) = o
opener_in (OneSegment g) = Raw

abbrev after_in : Found → List ℕ
after_in (OscAfter o r) = r
after_in (OneSegment g) = []

osc_same : (o u : Opener) (ps qs : List OscUnit) (e f : Ending) (r t : List ℕ)
    → HasShape (Osc o ps e) r → HasShape (Osc u qs f) t → MayFollow (Osc o ps e) r
    → MayFollow (Osc u qs f) t → found (Osc o ps e) r ≡ found (Osc u qs f) t
    → Osc o ps e ≡ Osc u qs f
osc_same o u ps qs e f r t a b m n h =
    let units = units_same ps qs e f r t a.1 b.1 a.2 b.2 (may_end o ps e r m) (may_end u qs f t n)
    (ap after_in h) in
    let same : o ≡ u = ap opener_in h in
    let l = units.0 in
    let k = units.1 in cc

segment_by : (g h : Segment) (r t : List ℕ) → HasShape g r → HasShape h t → MayFollow g r
    → MayFollow h t → found g r ≡ found h t → OscOrWhole g → OscOrWhole h
    → g ≡ h
segment_by g h r t a b m n e (inl (o, ps, x, i)) (inl (u, qs, y, j)) =
    let P : Segment → Segment → Type 0 = λ g h. HasShape g r → HasShape h t → MayFollow g r
    → MayFollow h t → found g r ≡ found h t → g ≡ h in
    subst (λ k. P k h) (sym i) (subst (λ k. P (Osc o ps x) k) (sym j) (osc_same o u ps qs x y r t))
    a b m n e
segment_by g h r t a b m n e (inl (o, ps, x, i)) (inr k) =
    let p : OscAfter o (text_bytes ps ++ (ending_bytes x ++ r)) ≡ OneSegment h =
    ap (λ z. found z r) (sym i) ∙ e ∙ k t in absurd cc
segment_by g h r t a b m n e (inr k) (inl (o, ps, x, i)) =
    let p : OneSegment g ≡ OscAfter o (text_bytes ps ++ (ending_bytes x ++ t)) =
    sym (k r) ∙ e ∙ ap (λ z. found z t) i in absurd cc
segment_by g h r t a b m n e (inr k) (inr l) = let p : OneSegment g ≡ OneSegment h =
    sym (k r) ∙ e ∙ l t in cc

pub finished_follows : (g : Segment) (t : List ℕ) → is_finished g t ≡ true → MayFollow g t
finished_follows g [] h = tt
finished_follows g (b ∷ r) h = h

-- the parts of a cut
pub head_of : (g : Segment) (gs : List Segment) → AreSegments (g ∷ gs)
    → HasShape g (joined_bytes gs)
    × MayFollow g (joined_bytes gs) × AreSegments gs
head_of g [] a = (a, tt, tt)
head_of g (h ∷ gs) (s, f, r) = (s, finished_follows g (joined_bytes (h ∷ gs)) f, r)

prefix_cons : (f t : List ℕ) → lead_of (f ++ t) ≡ true → is_cons (f ++ t) ≡ true
prefix_cons [] [] h = absurd cc
prefix_cons [] (b ∷ t) h = refl
prefix_cons (a ∷ f) t h = refl

opener_cons : (k : Kind) (o : Opener) (x t : List ℕ) → is_cons ((opener k o ++ x) ++ t) ≡ true
opener_cons k (Long n) x t = refl
opener_cons k Raw x t = refl
opener_cons k Pair x t = refl

has_byte : (g : Segment) (r t : List ℕ) → HasShape g r → is_cons (bytes_of g ++ t) ≡ true
has_byte (Wide x) r t s = prefix_cons x t (sequence_lead x t s.0)
has_byte (Broken x) r t s = prefix_cons x t (prefix_lead x t s)
has_byte (HighControl true b) r t s = refl
has_byte (HighControl false b) r t s = refl
has_byte (Terminator true b) r t s = refl
has_byte (Terminator false b) r t s = refl
has_byte (Csi o x f) r t s = ap is_cons (append_assoc (opener kind.Csi o ++ x) (f ∷ []) t)
    ∙ opener_cons kind.Csi o x (f ∷ t)
has_byte (CutCsi o x) r t s = opener_cons kind.Csi o x t
has_byte (CutDcs o x) r t s = opener_cons kind.Dcs o x t
has_byte (Apc o d) r t s = opener_cons kind.Apc o d t
has_byte (Ignored k o d) r t s = opener_cons k o d t
has_byte (Dcs o x f d) r t s =
    ap is_cons (append_assoc (opener kind.Dcs o ++ x ++ f ∷ []) d t
    ∙ append_assoc (opener kind.Dcs o ++ x) (f ∷ []) (d ++ t))
    ∙ opener_cons kind.Dcs o x (f ∷ (d ++ t))
has_byte (Osc o ps e) r t s =
    ap is_cons (append_assoc (opener kind.Osc o ++ text_bytes ps) (ending_bytes e) t)
    ∙ opener_cons kind.Osc o (text_bytes ps) (ending_bytes e ++ t)
has_byte _ r t s = refl

not_none : (g : Segment) (r t : List ℕ) → HasShape g r → [] ≡ bytes_of g ++ t → ⊥
not_none g r t s e = let h : false ≡ true = ap is_cons e ∙ has_byte g r t s in cc

-- the same bytes are the same segments
pub one_list : (gs hs : List Segment) → AreSegments gs → AreSegments hs → joined_bytes gs
    ≡ joined_bytes hs
    → gs ≡ hs
one_list [] [] a b e = refl
one_list [] (h ∷ hs) a b e = absurd
    (not_none h (joined_bytes hs) (joined_bytes hs) (head_of h hs b).0 e)
one_list (g ∷ gs) [] a b e = absurd
    (not_none g (joined_bytes gs) (joined_bytes gs) (head_of g gs a).0 (sym e))
one_list (g ∷ gs) (h ∷ hs) a b e =
    let p = head_of g gs a in
    let q = head_of h hs b in
    let same : g ≡ h = segment_by g h (joined_bytes gs) (joined_bytes hs) p.0 q.0 p.1 q.1
    (sym (first_is g (joined_bytes gs) p.0 p.1) ∙ ap first e ∙ first_is h (joined_bytes hs) q.0 q.1)
    (osc_or_whole g) (osc_or_whole h) in
    let rests : joined_bytes gs ≡ joined_bytes hs = append_cancel_left (bytes_of h)
    (joined_bytes gs) (joined_bytes hs)
    (ap (λ k. bytes_of k ++ joined_bytes gs) (sym same) ∙ e) in
    ap (λ k. k ∷ gs) same ∙ ap (λ ks. h ∷ ks) (one_list gs hs p.2 q.2 rests)

-- two cuts of one stream are one
pub one_cut : (s : List ℕ) (gs hs : List Segment) → IsCut s gs → IsCut s hs → gs ≡ hs
one_cut s gs hs a b = one_list gs hs a.each b.each (sym a.whole ∙ b.whole)

-- a stream emits one list of events
pub events_once : (limit : Option ℕ) (s : List ℕ) (xs ys : List Event) → HasEventsWithin limit s xs
    → HasEventsWithin limit s ys → xs ≡ ys
events_once limit s xs ys (gs, a, p) (hs, b, q) =
    p ∙ ap (events_of_cut_within limit) (one_cut s gs hs a b) ∙ sym q
