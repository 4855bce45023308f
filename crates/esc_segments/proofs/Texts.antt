-- The text of operating system commands, unit by unit.
use Rattle.std.proofs.Common.{ℕ, ◌≡◌, ◌+◌, ◌-◌, ◌<◌, ◌≤◌, Bool, true, false, List, [], ◌∷◌, ◌++◌, map, length, take, drop, get_or}
use Rattle.std.proofs.Common.{refl, ap, sym, ◌∙◌, subst, append_assoc, take-append-drop, length-append, length-drop, arith}
use Rattle.std.specs.List.{prefix_len}
use Rattle.std.proofs.Math.Seq.{take-add}
use Rattle.std.proofs.lemmas.List.{append-nil, drop-drop, take_rest, length-take-le}
use Rattle.std.proofs.lemmas.List.Concat.{flat_map-append}
use Rattle.std.proofs.lemmas.Bool.{and_parts}
use Rattle.std.proofs.lemmas.Bool.Decides.{nat_tests}
use Rattle.esc_segments.specs.declared.kind.SegmentKind.TheVariants as kinds
use Rattle.esc_segments.specs.declared.text.Unit.TheVariants as units
use Rattle.esc_segments.specs.declared.sequence.Ahead.TheVariants as ahead
use Rattle.esc_segments.specs.Places.{found_at, IsOpened, IsUnit, IsText, IsSequence}
use Rattle.esc_frame.specs.declared.classes.Class.{Class}
use Rattle.esc_frame.specs.declared.classes.Class.TheVariants.{Bell}
use Rattle.esc_frame.specs.declared.classes.Class.TheVariants.{Lead}
use Rattle.esc_frame.specs.declared.classes.Kind.TheVariants as kind
use Rattle.esc_frame.specs.Classes.{class_of, AllOf, in_osc, is_breaker, is_raw}
use Rattle.esc_frame.specs.Sequences.{is_prefix}
use Rattle.esc_frame.specs.Segments.{OscUnit, IsOscUnit, AreOscUnits, opener, text_bytes, breaks_text}
use Rattle.esc_frame.specs.Segments.{osc_unit_bytes}
use Rattle.esc_frame.specs.Segments.Segment.{Osc}
use Rattle.esc_frame.specs.Segments.Ending.{Open, Rung, Waits}
use Rattle.esc_frame.specs.Segments.OscUnit.{One, Sequence, BrokenOff}
use Rattle.esc_segments.proofs.Prefixes.{split, at_end, stops}
use Rattle.esc_segments.proofs.Bodies.{joins, lengths, lengths_one, not_true}

-- ---- units

pub osc_units_append : (ps qs : List OscUnit) (t : List ℕ) → AreOscUnits ps (text_bytes qs ++ t)
    → AreOscUnits qs t → AreOscUnits (ps ++ qs) t
osc_units_append [] qs t a b = b
osc_units_append (p ∷ ps) qs t a b =
    let e : text_bytes ps ++ (text_bytes qs ++ t) ≡ text_bytes (ps ++ qs) ++ t =
    sym (append_assoc (text_bytes ps) (text_bytes qs) t)
    ∙ ap (λ y. y ++ t) (sym (flat_map-append osc_unit_bytes ps qs)) in
    (subst (λ y. IsOscUnit p y) e a.0, osc_units_append ps qs t a.1 b)

ones_bytes : (x : List ℕ) → text_bytes (map One x) ≡ x
ones_bytes [] = refl
ones_bytes (b ∷ x) = ap (λ y. b ∷ y) (ones_bytes x)

ones_are : (x t : List ℕ) → AllOf in_osc x → AreOscUnits (map One x) t
ones_are [] t h = tt
ones_are (b ∷ x) t h = let p = and_parts (in_osc (class_of b)) _ h in (p.0, ones_are x t p.1)

pub run_unit : (text : List ℕ) (n : ℕ) → n ≡ prefix_len (λ b. in_osc (class_of b)) text → 0 < n
    → n ≤ length text → IsUnit text (units.Kept n)
run_unit text n e h l =
    let s = split in_osc text n e in (
      h,
      l,
      (
        map One (take n text),
        ones_bytes (take n text),
        ones_are (take n text) (drop n text) s.passes,
      ),
    )

-- a byte that is no unit of one byte, no bell and no breaker begins a sequence of UTF-8
bell_is : (b : ℕ) → class_of b ≡ Bell → b ≡ 0x07
unfolding class_of
bell_is b e = grind (arith, nat_tests)

lead_low : (b : ℕ) → class_of b ≡ Lead → 0xc2 ≤ b
unfolding class_of
lead_low b e = grind (arith, nat_tests)

lead_high : (b : ℕ) → class_of b ≡ Lead → b ≤ 0xf4
unfolding class_of
lead_high b e = grind (arith, nat_tests)

lead_by : (b : ℕ) (c : Class) → class_of b ≡ c → in_osc c ≡ false → (b ≡ 0x07 → ⊥)
    → is_breaker c ≡ false → (0xc2 ≤ b) × (b ≤ 0xf4)
lead_by b Lead e h n m = (lead_low b e, lead_high b e)
lead_by b Bell e h n m = absurd (n (bell_is b e))
lead_by b _ e h n m = absurd cc

pub lead_first : (text : List ℕ) (n : ℕ) → n ≡ prefix_len (λ b. in_osc (class_of b)) text → n ≡ 0
    → 0 < length text → (get_or text 0 0 ≡ 0x07 → ⊥)
    → is_breaker (class_of (get_or text 0 0)) ≡ false → (0xc2 ≤ get_or text 0 0)
    × (get_or text 0 0 ≤ 0xf4)
lead_first text n e z l p q =
    let k : 0 ≡ prefix_len (λ b. in_osc (class_of b)) text = sym z ∙ e in
    lead_by (get_or text 0 0) (class_of (get_or text 0 0)) refl (stops in_osc text 0 k l) p q

c2_class : class_of 0xc2 ≡ Lead
unfolding class_of
c2_class = refl

pair_breaks : (text : List ℕ) (b : ℕ) → is_raw (class_of b) ≡ true → take 2 text ≡ 0xc2 ∷ b ∷ []
    → breaks_text text ≡ true
pair_breaks [] b h e = absurd cc
pair_breaks (x ∷ []) b h e = absurd cc
pair_breaks (x ∷ y ∷ text) b h e =
    let i : x ≡ 0xc2 = cc in
    let j : y ≡ b = cc in
    subst (λ x. breaks_text (x ∷ y ∷ text) ≡ true) (sym i)
    (subst (λ y. breaks_text (0xc2 ∷ y ∷ text) ≡ true) (sym j) (rw c2_class h))

pub whole_unit : (text : List ℕ) (n : ℕ) → IsSequence text (ahead.Whole n)
    → IsUnit text (units.Kept n)
whole_unit text n (p, l, s, q) =
    (p, l, (Sequence (take n text) ∷ [], append-nil (take n text), ((s, q), tt)))

pub broken_unit : (text : List ℕ) (n : ℕ) → IsSequence text (ahead.Broken n)
    → IsUnit text (units.Kept n)
broken_unit text n (p, l, s, q) =
    (p, l, (BrokenOff (take n text) ∷ [], append-nil (take n text), ((s, q), tt)))

pub control_unit : (text : List ℕ) (b : ℕ) → IsSequence text (ahead.Control b)
    → IsUnit text units.Breaker
control_unit text b h = pair_breaks text b h.0 h.1

-- ---- a text, unit after unit

pub no_text : (text : List ℕ) → IsText text 0
no_text text = ([], refl, tt)

tail : (text : List ℕ) (n : ℕ) → take (length text - n) (drop n text) ≡ drop n text
tail text n = take_rest text n

text_more : (text : List ℕ) (n m : ℕ) → IsText text n → IsUnit (drop n text) (units.Kept m)
    → IsText text (n + m)
text_more text n m (ps, e, a) (_, _, (qs, f, b)) =
    let d : drop m (drop n text) ≡ drop (n + m) text = drop-drop m n text in
    let c : drop n text ≡ text_bytes qs ++ drop m (drop n text) =
    sym (take-append-drop m (drop n text))
    ∙ ap (λ y. y ++ drop m (drop n text)) (sym f) in (
      ps ++ qs,
      flat_map-append osc_unit_bytes ps qs ∙ ap (λ y. y ++ text_bytes qs) e
          ∙ ap (λ y. take n text ++ y) f ∙ sym (take-add n m text),
      subst (λ y. AreOscUnits (ps ++ qs) y) d
          (osc_units_append ps qs (drop m (drop n text)) (subst (λ y. AreOscUnits ps y) c a) b),
    )

module _ (text : List ℕ) (n : ℕ) (room : n ≤ length text) (so : IsText text n) where
  pub kept_more : (m : ℕ) → IsUnit (take (length text - n) (drop n text)) (units.Kept m)
      → IsText text (n + m) × (n + m ≤ length text)
  kept_more m h =
      let k : IsUnit (drop n text) (units.Kept m) =
      subst (λ y. IsUnit y (units.Kept m)) (tail text n) h in
      let l = k.1 in (text_more text n m so k, omega (arith, length-drop n text, l))

  parted : (p : List ℕ) → p ++ text ≡ (p ++ text_bytes so.0) ++ drop n text
  parted p = joins p text (text_bytes so.0) (drop n text) (sym (take-append-drop n text)
      ∙ ap (λ y. y ++ drop n text) (sym so.1))

  long : n ≡ length (text_bytes so.0)
  long = sym (ap length so.1 ∙ length-take-le n text room)

  osc_open : (w : Bool) → w ≡ breaks_text (drop n text) → (w ≡ false → drop n text ≡ [])
      → IsOpened kind.Osc text (found_at kinds.Osc n w)
  osc_open w f d = λ o io.
      let p = opener kind.Osc o in
      let z = append-nil (p ++ text_bytes so.0) in record {
        g = Osc o so.0 Open;
        after = drop n text;
        whole = parted p ∙ ap (λ y. y ++ drop n text) (sym z);
        shape = (io, so.2, tt);
        kind = refl;
        len = lengths p (text_bytes so.0) n long ∙ ap length (sym z);
        finished = f;
        last = d;
      }

  pub osc_pending : n ≡ length text → IsOpened kind.Osc text (found_at kinds.Osc n false)
  osc_pending h = osc_open false (sym (ap breaks_text (at_end text n h))) (λ _. at_end text n h)

  pub osc_broken : IsUnit (take (length text - n) (drop n text)) units.Breaker
      → IsOpened kind.Osc text (found_at kinds.Osc n true)
  osc_broken h =
      osc_open true (sym (ap breaks_text (sym (tail text n)) ∙ h)) (not_true (drop n text))

  pub osc_rung : IsUnit (take (length text - n) (drop n text)) units.Bell
      → IsOpened kind.Osc text (found_at kinds.Osc (n + 1) true)
  osc_rung h = λ o io.
      let p = opener kind.Osc o in
      let u : List ℕ = drop 1 (drop n text) in
      let e : drop n text ≡ 0x07 ∷ u = subst (λ y. y ≡ 0x07 ∷ drop 1 y) (tail text n) h in record {
        g = Osc o so.0 Rung;
        after = u;
        whole = parted p ∙ ap (λ y. (p ++ text_bytes so.0) ++ y) e
            ∙ sym (append_assoc (p ++ text_bytes so.0) (0x07 ∷ []) u);
        shape = (io, subst (λ y. AreOscUnits so.0 y) e so.2, tt);
        kind = refl;
        len = lengths_one p (text_bytes so.0) n 0x07 long;
        finished = refl;
        last = not_true u;
      }

  pub osc_waits : IsUnit (take (length text - n) (drop n text)) units.Pending
      → IsOpened kind.Osc text (found_at kinds.Osc (length text) false)
  osc_waits h = λ o io.
      let p = opener kind.Osc o in
      let i : is_prefix (drop n text) ≡ true = subst (λ y. is_prefix y ≡ true) (tail text n) h in
      let z = append-nil (drop n text) in record {
        g = Osc o so.0 (Waits (drop n text));
        after = [];
        whole = parted p ∙ sym (append-nil ((p ++ text_bytes so.0) ++ drop n text));
        shape = (io, subst (λ y. AreOscUnits so.0 y) (sym z) so.2, i);
        kind = refl;
        len = omega (
          arith,
          lengths p (text_bytes so.0) n long,
          length-append (p ++ text_bytes so.0) (drop n text),
          length-drop n text,
        );
        finished = refl;
        last = λ _. refl;
      }
