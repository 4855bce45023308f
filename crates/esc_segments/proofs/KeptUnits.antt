-- The rest of the text of an operating system command, unit by unit.
use Rattle.std.proofs.Common.{ℕ, ◌≡◌, ◌<◌, ◌≤◌, true, false, List, [], ◌∷◌, ◌++◌, length, take, drop, get_or, refl, ap, sym, ◌∙◌, subst, append_assoc}
use Rattle.std.proofs.Common.{take-append-drop, arith}
use Rattle.std.proofs.lemmas.List.{append-nil, drop_all, drop_at, length-take-le}
use Rattle.std.proofs.lemmas.Bool.Decides.{nat_tests}
use Rattle.esc_frame.specs.declared.classes.Class.{Class}
use Rattle.esc_frame.specs.declared.classes.Class.TheVariants.{Bell, Lead}
use Rattle.esc_frame.specs.Classes.{class_of, in_osc, is_text, bytes_of_class}
use Rattle.esc_frame.specs.Sequences.{is_pair, is_prefix, is_broken_before}
use Rattle.esc_frame.specs.Segments.{Ending, OscUnit, AreOscUnits, ending_bytes, text_bytes, text_of}
use Rattle.esc_frame.specs.Segments.Ending.{Open, Rung, Waits}
use Rattle.esc_frame.specs.Segments.OscUnit.{One, Sequence, BrokenOff}
use Rattle.esc_frame.proofs.Cut.FirstSequence.{begun, is_lead, lead_of, begun_waits, begun_breaks, begun_sequence, prefix_lead, sequence_lead}
use Rattle.esc_frame.proofs.Cut.FirstSequence.Begun.{Complete, Halted, Waiting}
use Rattle.esc_frame.proofs.Cut.UnitsAreDetermined.{raw_in}
use Rattle.esc_segments.specs.declared.sequence.Ahead.TheVariants as ahead
use Rattle.esc_segments.specs.Parts.{IsLeft, is_over}
use Rattle.esc_segments.specs.Places.{IsSequence}

-- U+FFFD
abbrev pub mark : List ℕ
mark = 0xef ∷ 0xbf ∷ 0xbd ∷ []

bell_code : class_of 0x07 ≡ Bell
unfolding class_of
bell_code = refl

text_no_lead : (c : Class) → is_text c ≡ true → is_lead c ≡ true → ⊥
text_no_lead Lead h l = absurd cc
text_no_lead _ h l = absurd cc

osc_no_lead : (c : Class) → in_osc c ≡ true → is_lead c ≡ true → ⊥
osc_no_lead Lead h l = absurd cc
osc_no_lead _ h l = absurd cc

-- the same text, and the bytes that it keeps
moved : (kept bytes other after t : List ℕ) → bytes ≡ other → IsLeft kept bytes after t
    → IsLeft kept other after t
moved kept bytes other after t e l = subst (λ y. IsLeft kept y after t) e l

-- a unit that keeps these bytes
unit_taken : (kept more s after t : List ℕ) (ps : List OscUnit) (e : Ending) → is_over e ≡ true
    → s ≡ text_bytes ps ++ ending_bytes e
    → AreOscUnits ps (ending_bytes e ++ after) → kept ++ (more ++ text_of ps) ≡ t
    → IsLeft (kept ++ more) s after t
unit_taken kept more s after t ps e o w a q = record {
  osc_units = ps;
  ending = e;
  over = o;
  whole = w;
  each = a;
  same = append_assoc kept more (text_of ps) ∙ q;
}

-- ---- a unit of one byte

text_by : (kept : List ℕ) (b : ℕ) (s after t : List ℕ) (ps : List OscUnit) (e : Ending)
    → is_text (class_of b) ≡ true → is_over e ≡ true
    → b ∷ s ≡ text_bytes ps ++ ending_bytes e → AreOscUnits ps (ending_bytes e ++ after)
    → kept ++ text_of ps ≡ t → IsLeft (kept ++ b ∷ []) s after t
text_by kept b s after t [] Open h o w a q = absurd cc
text_by kept b s after t [] Rung h o w a q =
    let i : b ≡ 0x07 = cc in
    let j : is_text (class_of 0x07) ≡ true = subst (λ y. is_text (class_of y) ≡ true) i h in
    let k : is_text Bell ≡ true = ap is_text (sym bell_code) ∙ j in absurd cc
text_by kept b s after t [] (Waits f) h o w a q = absurd cc
text_by kept b s after t (One c ∷ ps) e h o w a q =
    let i : b ≡ c = cc in
    let j : s ≡ text_bytes ps ++ ending_bytes e = cc in
    let k : bytes_of_class is_text (c ∷ []) ≡ b ∷ [] =
    subst (λ y. bytes_of_class is_text (y ∷ []) ≡ b ∷ []) i (rw h refl) in
    unit_taken kept (b ∷ []) s after t ps e o j a.1 (ap (λ y. kept ++ (y ++ text_of ps)) (sym k)
    ∙ q)
text_by kept b s after t (Sequence x ∷ ps) e h o w a q =
    let z = append_assoc x (text_bytes ps) (ending_bytes e) in
    let l : lead_of (b ∷ s) ≡ true = ap lead_of (w ∙ z)
    ∙ sequence_lead x (text_bytes ps ++ ending_bytes e) a.0.0 in
    absurd (text_no_lead (class_of b) h l)
text_by kept b s after t (BrokenOff x ∷ ps) e h o w a q =
    let z = append_assoc x (text_bytes ps) (ending_bytes e) in
    let l : lead_of (b ∷ s) ≡ true = ap lead_of (w ∙ z)
    ∙ prefix_lead x (text_bytes ps ++ ending_bytes e) a.0.0 in
    absurd (text_no_lead (class_of b) h l)

pub left_text : (kept : List ℕ) (b : ℕ) (s after t : List ℕ) → is_text (class_of b) ≡ true
    → IsLeft kept (b ∷ s) after t → IsLeft (kept ++ b ∷ []) s after t
left_text kept b s after t h l =
    text_by kept b s after t l.osc_units l.ending h l.over l.whole l.each l.same

no_lead : (c : Class) → is_lead c ≡ false → is_lead c ≡ true → ⊥
no_lead c h l = let z : true ≡ false = sym l ∙ h in cc

skip_by : (kept : List ℕ) (b : ℕ) (s after t : List ℕ) (ps : List OscUnit) (e : Ending)
    → is_text (class_of b) ≡ false → is_lead (class_of b) ≡ false
    → is_over e ≡ true → b ∷ s ≡ text_bytes ps ++ ending_bytes e
    → AreOscUnits ps (ending_bytes e ++ after) → kept ++ text_of ps ≡ t → IsLeft kept s after t
skip_by kept b s after t [] Open h n o w a q = absurd cc
skip_by kept b s after t [] Rung h n o w a q = record {
  osc_units = [];
  ending = Open;
  over = refl;
  whole = (let j : s ≡ [] = cc in j);
  each = tt;
  same = q;
}
skip_by kept b s after t [] (Waits f) h n o w a q = absurd cc
skip_by kept b s after t (One c ∷ ps) e h n o w a q =
    let i : b ≡ c = cc in
    let j : s ≡ text_bytes ps ++ ending_bytes e = cc in
    let k : bytes_of_class is_text (c ∷ [])
    ≡ [] = subst (λ y. bytes_of_class is_text (y ∷ []) ≡ []) i (rw h refl) in
    record {
      osc_units = ps;
      ending = e;
      over = o;
      whole = j;
      each = a.1;
      same = ap (λ y. kept ++ (y ++ text_of ps)) (sym k) ∙ q;
    }
skip_by kept b s after t (Sequence x ∷ ps) e h n o w a q =
    let z = append_assoc x (text_bytes ps) (ending_bytes e) in
    let l : lead_of (b ∷ s) ≡ true = ap lead_of (w ∙ z)
    ∙ sequence_lead x (text_bytes ps ++ ending_bytes e) a.0.0 in
    absurd (no_lead (class_of b) n l)
skip_by kept b s after t (BrokenOff x ∷ ps) e h n o w a q =
    let z = append_assoc x (text_bytes ps) (ending_bytes e) in
    let l : lead_of (b ∷ s) ≡ true = ap lead_of (w ∙ z)
    ∙ prefix_lead x (text_bytes ps ++ ending_bytes e) a.0.0 in absurd (no_lead (class_of b) n l)

pub left_skip : (kept : List ℕ) (b : ℕ) (s after t : List ℕ) → is_text (class_of b) ≡ false
    → is_lead (class_of b) ≡ false → IsLeft kept (b ∷ s) after t
    → IsLeft kept s after t
left_skip kept b s after t h n l =
    skip_by kept b s after t l.osc_units l.ending h n l.over l.whole l.each l.same

-- ---- a sequence

-- the unit that a first byte of a sequence begins
pub data LeadUnit (kept text after t : List ℕ) : Type 0 where
  Taken : (x r : List ℕ) → begun text ≡ Complete x r → is_pair x ≡ false
      → IsLeft (kept ++ x) r after t → LeadUnit kept text after t
  Replaced : (x r : List ℕ) → begun text ≡ Halted x → text ≡ x ++ r
      → IsLeft (kept ++ mark) r after t → LeadUnit kept text after t
  Ended : (x : List ℕ) → begun text ≡ Waiting x → IsLeft (kept ++ mark) [] after t
      → LeadUnit kept text after t

broken_by : (kept text x r after rest t : List ℕ) → is_prefix x ≡ true
    → is_broken_before x (r ++ rest) ≡ true → text ≡ x ++ r → IsLeft (kept ++ mark) r after t
    → LeadUnit kept text after t
broken_by kept text x [] after rest t h k w l =
    Ended x (ap begun (w ∙ append-nil x) ∙ begun_waits x h) l
broken_by kept text x (b ∷ r) after rest t h k w l =
    Replaced x (b ∷ r) (ap begun w ∙ begun_breaks x (b ∷ r) h k) w l

lead_by : (kept text after t : List ℕ) (ps : List OscUnit) (e : Ending) → lead_of text ≡ true
    → is_over e ≡ true → text ≡ text_bytes ps ++ ending_bytes e
    → AreOscUnits ps (ending_bytes e ++ after) → kept ++ text_of ps ≡ t → LeadUnit kept text after t
lead_by kept text after t [] Open h o w a q = let z : true ≡ false = sym h ∙ ap lead_of w in
    absurd cc
lead_by kept text after t [] Rung h o w a q =
    let z : true ≡ is_lead (class_of 0x07) = sym h ∙ ap lead_of w in
    let y : true ≡ false = z ∙ ap is_lead bell_code in absurd cc
lead_by kept text after t [] (Waits f) h o w a q = absurd cc
lead_by kept text after t (One c ∷ ps) e h o w a q =
    absurd (osc_no_lead (class_of c) a.0 (sym (ap lead_of w) ∙ h))
lead_by kept text after t (Sequence x ∷ ps) e h o w a q =
    let r : List ℕ = text_bytes ps ++ ending_bytes e in
    let z : text ≡ x ++ r = w ∙ append_assoc x (text_bytes ps) (ending_bytes e) in
    Taken x r (ap begun z ∙ begun_sequence x r a.0.0) a.0.1
    (unit_taken kept x r after t ps e o refl a.1 q)
lead_by kept text after t (BrokenOff x ∷ ps) e h o w a q =
    let r : List ℕ = text_bytes ps ++ ending_bytes e in
    let z : text ≡ x ++ r = w ∙ append_assoc x (text_bytes ps) (ending_bytes e) in
    let k : is_broken_before x (r ++ after) ≡ true =
    ap (is_broken_before x) (append_assoc (text_bytes ps) (ending_bytes e) after) ∙ a.0.1 in
    broken_by kept text x r after after t a.0.0 k z (unit_taken kept mark r after t ps e o refl a.1
    q)

lead_unit : (kept text after t : List ℕ) → lead_of text ≡ true → IsLeft kept text after t
    → LeadUnit kept text after t
lead_unit kept text after t h l =
    lead_by kept text after t l.osc_units l.ending h l.over l.whole l.each l.same

-- the code found that unit
whole_unit : (kept text after t : List ℕ) (n : ℕ)
    → begun text ≡ Complete (take n text) (drop n text) → LeadUnit kept text after t
    → IsLeft (kept ++ take n text) (drop n text) after t
whole_unit kept text after t n e (Taken x r b p l) =
    let z : Complete x r ≡ Complete (take n text) (drop n text) = sym b ∙ e in
    let i : x ≡ take n text = cc in
    let j : r ≡ drop n text = cc in
    subst (λ y. IsLeft (kept ++ y) (drop n text) after t) i
    (moved (kept ++ x) r (drop n text) after t j l)
whole_unit kept text after t n e (Replaced x r b w l) =
    let z : Halted x ≡ Complete (take n text) (drop n text) = sym b ∙ e in absurd cc
whole_unit kept text after t n e (Ended x b l) =
    let z : Waiting x ≡ Complete (take n text) (drop n text) = sym b ∙ e in absurd cc

parted : (n : ℕ) (text : List ℕ) → take n text ++ drop n text ≡ text
parted n text = take-append-drop n text

pub left_whole : (kept text after t : List ℕ) (n : ℕ) → IsSequence text (ahead.Whole n)
    → IsLeft kept text after t
    → IsLeft (kept ++ take n text) (drop n text) after t
left_whole kept text after t n (p, m, s, q) l =
    let h : lead_of text ≡ true =
    sym (ap lead_of (parted n text)) ∙ sequence_lead (take n text) (drop n text) s in
    let e : begun text ≡ Complete (take n text) (drop n text) =
    sym (ap begun (parted n text)) ∙ begun_sequence (take n text) (drop n text) s in
    whole_unit kept text after t n e (lead_unit kept text after t h l)

same_rest : (n : ℕ) (text x r : List ℕ) → text ≡ x ++ r → x ≡ take n text → n ≤ length text
    → r ≡ drop n text
same_rest n text x r w i m =
    let l : length x ≡ n = ap length i ∙ length-take-le n text m in
    sym (drop_at x r n l) ∙ ap (drop n) (sym w)

broken_unit : (kept text after t : List ℕ) (n : ℕ) → n ≤ length text
    → begun text ≡ Halted (take n text) → LeadUnit kept text after t
    → IsLeft (kept ++ mark) (drop n text) after t
broken_unit kept text after t n m e (Taken x r b p l) =
    let z : Complete x r ≡ Halted (take n text) = sym b ∙ e in absurd cc
broken_unit kept text after t n m e (Replaced x r b w l) =
    let z : Halted x ≡ Halted (take n text) = sym b ∙ e in
    let i : x ≡ take n text = cc in
    moved (kept ++ mark) r (drop n text) after t (same_rest n text x r w i m) l
broken_unit kept text after t n m e (Ended x b l) = let z : Waiting x ≡ Halted (take n text) =
    sym b ∙ e in absurd cc

pub left_broken : (kept text after t : List ℕ) (n : ℕ) → IsSequence text (ahead.Broken n)
    → IsLeft kept text after t
    → IsLeft (kept ++ mark) (drop n text) after t
left_broken kept text after t n (p, m, s, q) l =
    let h : lead_of text ≡ true =
    sym (ap lead_of (parted n text)) ∙ prefix_lead (take n text) (drop n text) s in
    let e : begun text ≡ Halted (take n text) =
    sym (ap begun (parted n text)) ∙ begun_breaks (take n text) (drop n text) s q in
    broken_unit kept text after t n m e (lead_unit kept text after t h l)

pending_unit : (kept text after t : List ℕ) → begun text ≡ Waiting text → LeadUnit kept text after t
    → IsLeft (kept ++ mark) [] after t
pending_unit kept text after t e (Taken x r b p l) = let z : Complete x r ≡ Waiting text =
    sym b ∙ e in absurd cc
pending_unit kept text after t e (Replaced x r b w l) = let z : Halted x ≡ Waiting text =
    sym b ∙ e in absurd cc
pending_unit kept text after t e (Ended x b l) = l

nothing_after : (text : List ℕ) → [] ≡ drop (length text) text
nothing_after text = sym (drop_all (length text) text (omega arith))

pub left_pending : (kept text after t : List ℕ) → IsSequence text ahead.Pending
    → IsLeft kept text after t
    → IsLeft (kept ++ mark) (drop (length text) text) after t
left_pending kept text after t s l =
    let h : lead_of text ≡ true = ap lead_of (sym (append-nil text)) ∙ prefix_lead text [] s in
    moved (kept ++ mark) [] (drop (length text) text) after t (nothing_after text)
    (pending_unit kept text after t (begun_waits text s) (lead_unit kept text after t h l))

pair_unit : (kept text after t r : List ℕ) (b : ℕ) → is_pair (0xc2 ∷ b ∷ []) ≡ true
    → begun text ≡ Complete (0xc2 ∷ b ∷ []) r → LeadUnit kept text after t → ⊥
pair_unit kept text after t r b h e (Taken x s u p l) =
    let z : Complete x s ≡ Complete (0xc2 ∷ b ∷ []) r = sym u ∙ e in
    let i : x ≡ 0xc2 ∷ b ∷ [] = cc in
    let y : true ≡ false = sym h ∙ ap is_pair (sym i) ∙ p in cc
pair_unit kept text after t r b h e (Replaced x s u w l) =
    let z : Halted x ≡ Complete (0xc2 ∷ b ∷ []) r = sym u ∙ e in cc
pair_unit kept text after t r b h e (Ended x u l) = let z : Waiting x ≡ Complete (0xc2 ∷ b ∷ []) r =
    sym u ∙ e in cc

-- a control ends the text before it
pub left_control : (kept text after t : List ℕ) (b : ℕ) → IsSequence text (ahead.Control b)
    → IsLeft kept text after t → ⊥
left_control kept text after t b (r, two, n) l =
    let p = raw_in b r in
    let w : text ≡ (0xc2 ∷ b ∷ []) ++ drop 2 text =
    sym (take-append-drop 2 text) ∙ ap (λ y. y ++ drop 2 text) two in
    let h : lead_of text ≡ true = ap lead_of w ∙ sequence_lead (0xc2 ∷ b ∷ []) (drop 2 text) p.0 in
    pair_unit kept text after t (drop 2 text) b p.1 (ap begun w
    ∙ begun_sequence (0xc2 ∷ b ∷ []) (drop 2 text) p.0) (lead_unit kept text after t h l)

-- ---- the end

done_by : (kept after t : List ℕ) (ps : List OscUnit) (e : Ending) → is_over e ≡ true
    → [] ≡ text_bytes ps ++ ending_bytes e
    → AreOscUnits ps (ending_bytes e ++ after) → kept ++ text_of ps ≡ t → kept ≡ t
done_by kept after t [] e o w a q = sym (append-nil kept) ∙ q
done_by kept after t (One c ∷ ps) e o w a q = absurd cc
done_by kept after t (Sequence x ∷ ps) e o w a q =
    let z : false ≡ true = ap lead_of (w ∙ append_assoc x (text_bytes ps) (ending_bytes e))
    ∙ sequence_lead x (text_bytes ps ++ ending_bytes e) a.0.0 in
    absurd cc
done_by kept after t (BrokenOff x ∷ ps) e o w a q =
    let z : false ≡ true = ap lead_of (w ∙ append_assoc x (text_bytes ps) (ending_bytes e))
    ∙ prefix_lead x (text_bytes ps ++ ending_bytes e) a.0.0 in
    absurd cc

pub left_none : (kept after t : List ℕ) → IsLeft kept [] after t → kept ≡ t
left_none kept after t l = done_by kept after t l.osc_units l.ending l.over l.whole l.each l.same

-- ---- the first byte, by its range

text_range : (b : ℕ) → 0x20 ≤ b → b ≤ 0x7f → is_text (class_of b) ≡ true
unfolding class_of
text_range b l h = grind (arith, nat_tests)

low_range : (b : ℕ) → b ≤ 0x1f → (is_text (class_of b) ≡ false) × (is_lead (class_of b) ≡ false)
unfolding class_of
low_range b h = (grind (arith, nat_tests), grind (arith, nat_tests))

middle_range : (b : ℕ) → 0x80 ≤ b → b ≤ 0xc1 → (is_text (class_of b) ≡ false)
    × (is_lead (class_of b) ≡ false)
unfolding class_of
middle_range b l h = (grind (arith, nat_tests), grind (arith, nat_tests))

high_range : (b : ℕ) → 0xf5 ≤ b → (is_text (class_of b) ≡ false) × (is_lead (class_of b) ≡ false)
unfolding class_of
high_range b l = (grind (arith, nat_tests), grind (arith, nat_tests))

pub first_text : (kept text after t : List ℕ) → 0 < length text → 0x20 ≤ get_or text 0 0
    → get_or text 0 0 ≤ 0x7f → IsLeft kept text after t
    → IsLeft (kept ++ get_or text 0 0 ∷ []) (drop 1 text) after t
first_text kept [] after t n l h k = absurd (omega arith)
first_text kept (b ∷ s) after t n l h k = left_text kept b s after t (text_range b l h) k

pub first_low : (kept text after t : List ℕ) → 0 < length text → get_or text 0 0 ≤ 0x1f
    → IsLeft kept text after t → IsLeft kept (drop 1 text) after t
first_low kept [] after t n h k = absurd (omega arith)
first_low kept (b ∷ s) after t n h k = let r = low_range b h in left_skip kept b s after t r.0 r.1 k

pub first_middle : (kept text after t : List ℕ) → 0 < length text → 0x80 ≤ get_or text 0 0
    → get_or text 0 0 ≤ 0xc1 → IsLeft kept text after t
    → IsLeft kept (drop 1 text) after t
first_middle kept [] after t n l h k = absurd (omega arith)
first_middle kept (b ∷ s) after t n l h k = let r = middle_range b l h in
    left_skip kept b s after t r.0 r.1 k

pub first_high : (kept text after t : List ℕ) → 0 < length text → 0xf5 ≤ get_or text 0 0
    → IsLeft kept text after t → IsLeft kept (drop 1 text) after t
first_high kept [] after t n l k = absurd (omega arith)
first_high kept (b ∷ s) after t n l k = let r = high_range b l in
    left_skip kept b s after t r.0 r.1 k
