-- Which raw controls are left in a masked stream.
use Rattle.std.proofs.Common.{ℕ, ◌≡◌, ◌<◌, ◌⊎◌, inl, inr, Bool, true, false, not, ◌||◌, if◌then◌else◌, List, [], ◌∷◌, ◌++◌, arith, refl, ap, sym, ◌∙◌, subst, append_assoc}
use Rattle.std.specs.List.{list_any}
use Rattle.std.proofs.lemmas.Bool.Decides.{nat_tests}
use Rattle.std.proofs.lemmas.List.{append-nil}
use Rattle.esc_frame.proofs.Cut.OneByteMore.{outcome_more, outcome_whole}
use Rattle.esc_frame.proofs.Cut.FirstSequence.{is_lead, prefix_lead}
use Rattle.esc_frame.specs.Classes.{class_of, ends_csi, ends_escape, in_osc, is_c1, is_control, is_high, is_terminator, is_text}
use Rattle.esc_frame.specs.Segments.{AreSegments, AreOscUnits, HasShape, IsCut, IsOscUnit, Opener, OscUnit, Segment, bytes_of, is_finished, joined_bytes, opener, osc_unit_bytes, text_bytes}
use Rattle.esc_frame.specs.Segments.Ending.{Open, Rung, Waits}
use Rattle.esc_frame.specs.Segments.Opener.{Long, Pair, Raw}
use Rattle.esc_frame.specs.Segments.OscUnit.{BrokenOff, One, Sequence}
use Rattle.esc_frame.specs.Segments.Segment.{Apc, Broken as BrokenSegment, Character, Control, Csi, CutCsi, CutDcs, CutEscape, Dcs, Escape, HighControl, Ignored, Osc, Stray, Terminator, Wide}
use Rattle.esc_frame.specs.Sequences.{continues, is_broken_before, is_prefix, is_sequence, outcome}
use Rattle.esc_frame.specs.declared.classes.Class.{Class}
use Rattle.esc_frame.specs.declared.classes.Class.TheVariants as class
use Rattle.esc_frame.specs.declared.classes.Kind.TheVariants as kind
use Rattle.esc_frame.specs.declared.utf8.sequence.Outcome.{Outcome}
use Rattle.esc_frame.specs.declared.utf8.sequence.Outcome.TheVariants.{Whole, More, Broken}
use Rattle.esc_decode.specs.Masks.{begins_raw, begun_after, first_begun, first_is_raw, is_bytewise, is_raw, masked_bytes, masked_after, masked_byte, next_begun}
use Rattle.esc_decode.proofs.Characters.{prefix_begun, sequence_begun}
use Rattle.esc_decode.proofs.Masks.{begun_append, begun_low}
use Rattle.esc_decode.proofs.Outcomes.{nothing_begun, outcome_mask}

-- ---- the begun bytes show in the masked stream

first_mask : first_begun 0xff ≡ []
unfolding is_prefix
first_mask = refl

first_raw : (b : ℕ) → is_raw b ≡ true → first_begun b ≡ []
unfolding is_prefix
first_raw b h = let k : is_prefix (b ∷ []) ≡ false = grind (arith, nat_tests) in
    ap (λ t. if t then b ∷ [] else []) k

masked_begun : (f : List ℕ) (b : ℕ) (t : Bool) → is_raw b ≡ t → outcome f b ≡ Broken
    → next_begun f (if t then 0xff else b) (outcome f (if t then 0xff else b)) ≡ first_begun b
masked_begun f b true e o =
    ap (next_begun f 0xff) (outcome_mask f) ∙ first_mask ∙ sym (first_raw b e)
masked_begun f b false e o = ap (next_begun f b) o

same_begun : (f : List ℕ) (b : ℕ) (o : Outcome) → outcome f b ≡ o
    → next_begun f (masked_byte b o) (outcome f (masked_byte b o)) ≡ next_begun f b o
same_begun f b Whole e = ap (next_begun f b) e
same_begun f b More e = ap (next_begun f b) e
same_begun f b Broken e = masked_begun f b (is_raw b) refl e

-- ---- a raw control that is left

or_first : (s t : Bool) → s ≡ true → (s || t) ≡ true
or_first true t h = refl
or_first false t h = absurd cc

or_second : (s t : Bool) → t ≡ true → (s || t) ≡ true
or_second true t h = refl
or_second false t h = h

no_raw : (b c : ℕ) (t : Bool) → is_raw b ≡ t → (if t then 0xff else b) ≡ c → is_raw c ≡ true → ⊥
no_raw b c true e same h = let k : is_raw 0xff ≡ true = ap is_raw same ∙ h in absurd cc
no_raw b c false e same h = let k : is_raw b ≡ true = ap is_raw same ∙ h in absurd cc

goes_on : (f : List ℕ) (a b : ℕ) (o : Outcome) → outcome f a ≡ o → masked_byte a o ≡ b
    → is_raw b ≡ true → continues f b ≡ true
goes_on f a b Whole e same h = subst (λ k. continues f k ≡ true) same
    (or_first (is_sequence (f ++ a ∷ [])) (is_prefix (f ++ a ∷ [])) (outcome_whole f a e))
goes_on f a b More e same h = subst (λ k. continues f k ≡ true) same
    (or_second (is_sequence (f ++ a ∷ [])) (is_prefix (f ++ a ∷ [])) (outcome_more f a e))
goes_on f a b Broken e same h = absurd (no_raw a b (is_raw a) refl same h)

head_same : (a b : ℕ) (x y : List ℕ) → a ∷ x ≡ b ∷ y → a ≡ b
head_same a b x y e = cc

tail_same : (a b : ℕ) (x y : List ℕ) → a ∷ x ≡ b ∷ y → x ≡ y
tail_same a b x y e = cc

raw_after : (f s x y : List ℕ) (b : ℕ) → masked_after f s ≡ x ++ b ∷ y → is_raw b ≡ true
    → continues (begun_after f x) b ≡ true
raw_after f [] [] y b e h = absurd cc
raw_after f [] (c ∷ x) y b e h = absurd cc
raw_after f (a ∷ s) [] y b e h =
    goes_on f a b (outcome f a) refl (head_same _ _ _ _ e) h
raw_after f (a ∷ s) (c ∷ x) y b e h =
    let g = next_begun f a (outcome f a) in
    let here : masked_byte a (outcome f a) ≡ c = head_same _ _ _ _ e in
    let same : g ≡ next_begun f c (outcome f c) =
    sym (same_begun f a (outcome f a) refl) ∙ ap (λ k. next_begun f k (outcome f k)) here in
    subst (λ k. continues (begun_after k x) b ≡ true) same
    (raw_after g s x y b (tail_same _ _ _ _ e) h)

pub raw_goes_on : (s x y : List ℕ) (b : ℕ) → masked_bytes s ≡ x ++ b ∷ y → is_raw b ≡ true
    → continues (begun_after [] x) b ≡ true
raw_goes_on s x y b e h = raw_after [] s x y b e h

-- ---- the begun bytes do not go on here

abbrev IsOver : List ℕ → List ℕ → Type 0
IsOver f t = (f ≡ []) ⊎ (is_broken_before f t ≡ true)

broken_by : (s t : Bool) → not (s || t) ≡ true
    → (if s then Whole else if t then More else Broken) ≡ Broken
broken_by true t h = absurd cc
broken_by false true h = absurd cc
broken_by false false h = refl

is_broken : (f : List ℕ) (b : ℕ) → not (continues f b) ≡ true → outcome f b ≡ Broken
is_broken f b h = broken_by (is_sequence (f ++ b ∷ [])) (is_prefix (f ++ b ∷ [])) h

over_begun : (f : List ℕ) (b : ℕ) (r t : List ℕ) → IsOver f (b ∷ t)
    → begun_after f (b ∷ r) ≡ begun_after [] (b ∷ r)
over_begun f b r t (inl e) = ap (λ g. begun_after g (b ∷ r)) e
over_begun f b r t (inr h) =
    ap (λ o. begun_after (next_begun f b o) r) (is_broken f b h)
    ∙ ap (λ g. begun_after g r) (sym (nothing_begun b))

none_raw : (b : ℕ) → is_raw b ≡ true → continues [] b ≡ false
unfolding is_prefix is_sequence
none_raw b h = grind (arith, nat_tests)

both_ways : (t : Bool) → t ≡ true → not t ≡ true → ⊥
both_ways true h k = absurd cc
both_ways false h k = absurd cc

over_raw : (f : List ℕ) (b : ℕ) (t : List ℕ) → IsOver f (b ∷ t) → is_raw b ≡ true
    → continues f b ≡ true → ⊥
over_raw f b t (inl e) h k =
    let j : continues [] b ≡ true = ap (λ g. continues g b) (sym e) ∙ k in
    let i = none_raw b h in absurd cc
over_raw f b t (inr i) h k = both_ways (continues f b) k i

-- ---- the bytes that some bytes leave begun, and that then do not go on

over_after : (f x t : List ℕ) → IsOver f (x ++ t) → IsOver (begun_after [] x) t
    → IsOver (begun_after f x) t
over_after f [] t h k = h
over_after f (b ∷ x) t h k =
    subst (λ g. IsOver g t) (sym (over_begun f b x (x ++ t) h)) k

-- ---- one byte

single : (b : ℕ) → is_lead (class_of b) ≡ false → begun_after [] (b ∷ []) ≡ []
single b h = nothing_begun b ∙ by (is_prefix (b ∷ [])) refl
  where
    by : (t : Bool) → is_prefix (b ∷ []) ≡ t → (if t then b ∷ [] else []) ≡ []
    by true e = let k : is_lead (class_of b) ≡ true = prefix_lead (b ∷ []) [] e in absurd cc
    by false e = refl

text_no_lead : (c : Class) → is_text c ≡ true → is_lead c ≡ false
text_no_lead class.Lead h = absurd cc
text_no_lead _ h = refl

high_no_lead : (c : Class) → is_high c ≡ true → is_lead c ≡ false
high_no_lead class.Lead h = absurd cc
high_no_lead _ h = refl

control_no_lead : (c : Class) → is_control c ≡ true → is_lead c ≡ false
control_no_lead class.Lead h = absurd cc
control_no_lead _ h = refl

osc_no_lead : (c : Class) → in_osc c ≡ true → is_lead c ≡ false
osc_no_lead class.Lead h = absurd cc
osc_no_lead _ h = refl

c1_raw : (b : ℕ) → is_c1 (class_of b) ≡ true → is_raw b ≡ true
unfolding class_of
c1_raw b h = grind (arith, nat_tests)

terminator_raw : (b : ℕ) → is_terminator (class_of b) ≡ true → is_raw b ≡ true
unfolding class_of
terminator_raw b h = grind (arith, nat_tests)

escape_low : (b : ℕ) → ends_escape (class_of b) ≡ true → b < 0x80
unfolding class_of
escape_low b h = grind (arith, nat_tests)

csi_low : (b : ℕ) → ends_csi (class_of b) ≡ true → b < 0x80
unfolding class_of
csi_low b h = grind (arith, nat_tests)

pair_sequence : (b : ℕ) → is_raw b ≡ true → is_sequence (0xc2 ∷ b ∷ []) ≡ true
unfolding is_sequence
pair_sequence b h = grind (arith, nat_tests)

-- ---- the text of an operating system command

chunk_over : (f : List ℕ) (p : OscUnit) (t : List ℕ) → IsOver f (osc_unit_bytes p ++ t)
    → IsOscUnit p t
    → IsOver (begun_after f (osc_unit_bytes p)) t
chunk_over f (One b) t h k =
    over_after f (b ∷ []) t h (inl (single b (osc_no_lead (class_of b) k)))
chunk_over f (Sequence x) t h k = over_after f x t h (inl (sequence_begun x k.0))
chunk_over f (BrokenOff x) t h k =
    over_after f x t h (inr (ap (λ g. is_broken_before g t) (prefix_begun x k.0) ∙ k.1))

chunks_over : (f : List ℕ) (ps : List OscUnit) (t : List ℕ) → IsOver f (text_bytes ps ++ t)
    → AreOscUnits ps t → IsOver (begun_after f (text_bytes ps)) t
chunks_over f [] t h k = h
chunks_over f (p ∷ ps) t h k =
    let rest = text_bytes ps in
    let one = chunk_over f p (rest ++ t)
    (subst (IsOver f) (append_assoc (osc_unit_bytes p) rest t) h) k.0 in
    subst (λ g. IsOver g t) (sym (begun_append f (osc_unit_bytes p) rest))
    (chunks_over (begun_after f (osc_unit_bytes p)) ps t one k.1)

raw_no_lead : is_lead (class_of 0x9d) ≡ false
unfolding class_of
raw_no_lead = refl

opener_begun : (o : Opener) → begun_after [] (opener kind.Osc o) ≡ []
opener_begun (Long n) = begun_low [] (0x1b ∷ n) 0x5d (omega arith)
opener_begun Raw = single 0x9d raw_no_lead
opener_begun Pair = sequence_begun (0xc2 ∷ 0x9d ∷ []) (pair_sequence 0x9d refl)

-- ---- a segment that is finished

low_over : (x : List ℕ) (b : ℕ) (t : List ℕ) → b < 0x80
    → IsOver (begun_after [] (x ++ b ∷ [])) t
low_over x b t l = inl (begun_low [] x b l)

segment_over : (g : Segment) (t : List ℕ) → HasShape g t → is_finished g t ≡ true
    → is_bytewise g ≡ false → begins_raw g ≡ false → IsOver (begun_after [] (bytes_of g)) t
segment_over (Character b) t h f w r = inl (single b (text_no_lead (class_of b) h))
segment_over (Wide x) t h f w r = inl (sequence_begun x h.0)
segment_over (BrokenSegment x) t h f w r =
    inr (ap (λ g. is_broken_before g t) (prefix_begun x h) ∙ f)
segment_over (Stray b) t h f w r = inl (single b (high_no_lead (class_of b) h))
segment_over (Control b) t h f w r = inl (single b (control_no_lead (class_of b) h))
segment_over (HighControl true b) t h f w r =
    inl (sequence_begun (0xc2 ∷ b ∷ []) (pair_sequence b (c1_raw b h)))
segment_over (HighControl false b) t h f w r = let k = c1_raw b h in absurd cc
segment_over (Terminator true b) t h f w r =
    inl (sequence_begun (0xc2 ∷ b ∷ []) (pair_sequence b (terminator_raw b h)))
segment_over (Terminator false b) t h f w r = let k = terminator_raw b h in absurd cc
segment_over (Escape x b) t h f w r = low_over (0x1b ∷ x) b t (escape_low b h.1)
segment_over (Csi o x b) t h f w r = low_over (opener kind.Csi o ++ x) b t (csi_low b h.2)
segment_over (Osc o ps Open) t h f w r =
    let k = opener kind.Osc o in
    let text = text_bytes ps in
    let inside : IsOver (begun_after [] text) t = chunks_over [] ps t (inl refl) h.1 in
    subst (λ y. IsOver (begun_after [] y) t) (sym (append-nil (k ++ text)))
    (subst (λ g. IsOver g t) (sym (begun_append [] k text
    ∙ ap (λ g. begun_after g text) (opener_begun o))) inside)
segment_over (Osc o ps Rung) t h f w r =
    low_over (opener kind.Osc o ++ text_bytes ps) 0x07 t (omega arith)
segment_over (Osc o ps (Waits x)) t h f w r = absurd cc
segment_over (CutEscape x) t h f w r = absurd cc
segment_over (Dcs o x b d) t h f w r = absurd cc
segment_over (Apc o d) t h f w r = absurd cc
segment_over (Ignored k o d) t h f w r = absurd cc
segment_over (CutDcs o x) t h f w r = absurd cc
segment_over (CutCsi o x) t h f w r = absurd cc

-- ---- all segments

or_false : (s t : Bool) → (s || t) ≡ false → (s ≡ false) × (t ≡ false)
or_false true t h = absurd cc
or_false false t h = (refl, h)

module _ (s : List ℕ) where
  -- bytes that come after these, which nothing goes on into, do not begin with a raw control
  first_by : (x y t : List ℕ) → masked_bytes s ≡ x ++ (y ++ t) → IsOver (begun_after [] x) (y ++ t)
      → first_is_raw y ≡ false
  first_by x [] t e over = refl
  first_by x (b ∷ y) t e over = by (is_raw b) refl
    where
      by : (k : Bool) → is_raw b ≡ k → k ≡ false
      by true h = absurd (over_raw (begun_after [] x) b (y ++ t) over h
          (raw_goes_on s x (y ++ t) b e h))
      by false h = refl

  walk : (x : List ℕ) (gs : List Segment) → masked_bytes s ≡ x ++ joined_bytes gs
      → IsOver (begun_after [] x) (joined_bytes gs) → AreSegments gs
      → list_any is_bytewise gs ≡ false → list_any begins_raw gs ≡ false
  walk x [] e over each none = refl
  walk x (g ∷ []) e over each none = rw (first_by x (bytes_of g) [] e over) refl
  walk x (g ∷ h ∷ gs) e over each none =
      let y = bytes_of g in
      let t = joined_bytes (h ∷ gs) in
      let a = first_by x y t e over in
      let n = or_false (is_bytewise g) (list_any is_bytewise (h ∷ gs)) none in
      let next = over_after (begun_after [] x) y t over
      (segment_over g t each.0 each.1 n.0 a) in
      let more = walk (x ++ y) (h ∷ gs) (e ∙ sym (append_assoc x y t))
      (subst (λ f. IsOver f t) (sym (begun_append [] x y)) next) each.2 n.1 in
      rw (a, more) refl

  pub none_begins_in : (gs : List Segment) → IsCut (masked_bytes s) gs → list_any is_bytewise gs
      ≡ false
      → list_any begins_raw gs ≡ false
  none_begins_in gs cut none = walk [] gs cut.whole (inl refl) cut.each none

pub none_begins : (s : List ℕ) (gs : List Segment) → IsCut (masked_bytes s) gs
    → list_any is_bytewise gs ≡ false → list_any begins_raw gs ≡ false
none_begins s gs cut none = none_begins_in s gs cut none
