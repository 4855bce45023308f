-- Escape sequences, the segments that ESC opens, and the effect of a control of C1.
use Rattle.std.proofs.Common.{ℕ, ◌≡◌, ◌+◌, ◌-◌, ◌<◌, ◌≤◌, Bool, true, false, eqb, eqb-true, true≢false, ◌&&◌, if◌then◌else◌, List, [], ◌∷◌, ◌++◌, length, take, drop, get_or}
use Rattle.std.proofs.Common.{refl, ap, sym, ◌∙◌, subst, append_assoc, take-append-drop, length-append, length-drop, arith}
use Rattle.std.specs.List.{prefix_len}
use Rattle.std.proofs.lemmas.List.{append-nil, take_rest, length-take-le}
use Rattle.std.proofs.lemmas.Bool.Decides.{nat_tests}
use Rattle.esc_segments.specs.declared.kind.SegmentKind.TheVariants as kinds
use Rattle.esc_segments.specs.declared.found.Found.{Found}
use Rattle.esc_segments.specs.declared.sequence.Ahead.TheVariants as ahead
use Rattle.esc_segments.specs.Items.{kind_of}
use Rattle.esc_segments.specs.Places.{found_at, found_further, IsFirst, IsOpened, IsRaw, IsSequence}
use Rattle.esc_frame.specs.declared.classes.Class.{Class}
use Rattle.esc_frame.specs.declared.classes.Class.TheVariants.{C0, Bell, Parameter, Introducer, Final, Delete, High, Lead, Breaks}
use Rattle.esc_frame.specs.declared.classes.Breaker.TheVariants.{C1Introducer, C1Terminator, C1}
use Rattle.esc_frame.specs.declared.classes.Kind.{Kind}
use Rattle.esc_frame.specs.declared.classes.Kind.TheVariants as kind
use Rattle.esc_frame.specs.Classes.{class_of, without_noise, is_noise, in_escape, ends_escape, is_breaker, opens, letter_of, raw_of}
use Rattle.esc_frame.specs.Classes.{is_text, is_high, is_control, is_c1, is_terminator, is_raw}
use Rattle.esc_frame.specs.Segments.{Segment, HasShape, opener, bytes_of, is_finished, is_empty, breaks, after_c2}
use Rattle.esc_frame.specs.Segments.Segment.{Character, Wide, Broken, Stray, Control, HighControl, Terminator, CutEscape}
use Rattle.esc_frame.specs.Segments.Segment.{Escape as EscapeOf}
use Rattle.esc_frame.specs.Segments.Opener.{Long, Raw, Pair}
use Rattle.esc_segments.proofs.Prefixes.{Split, split, prefix, rest, at_end, next, stops}
use Rattle.esc_segments.proofs.Bodies.{no_breaker, breaker, not_true}

-- ---- the same segment of the same bytes

pub first_same : (a b : List ℕ) (x : Found) (n m : ℕ) → a ≡ b → n ≡ m
    → IsFirst a (found_at x.kind n x.finished) → IsFirst b (found_at x.kind m x.finished)
first_same a b x n m e i h = subst (λ y. IsFirst y (found_at x.kind m x.finished)) e
    (subst (λ k. IsFirst a (found_at x.kind k x.finished)) i h)

-- ---- one byte

-- a segment that is finished by itself
alone : (g : Segment) (s t : List ℕ) (n : ℕ) → s ≡ bytes_of g ++ t → HasShape g t
    → n ≡ length (bytes_of g) → is_finished g t ≡ true
    → IsFirst s (found_at (kind_of g) n true)
alone g s t n e h l f = record {
  g = g;
  after = t;
  whole = e;
  shape = h;
  kind = refl;
  len = l;
  finished = sym f;
  last = not_true t;
}

text_class : (b : ℕ) → 0x20 ≤ b → b ≤ 0x7f → is_text (class_of b) ≡ true
unfolding class_of
text_class b l h = grind (arith, nat_tests)

pub one_text : (s : List ℕ) → 0 < length s → 0x20 ≤ get_or s 0 0 → get_or s 0 0 ≤ 0x7f
    → IsFirst s (found_at kinds.Character 1 true)
one_text [] l low high = absurd (omega arith)
one_text (b ∷ s) l low high = alone (Character b) (b ∷ s) s 1 refl (text_class b low high) refl refl

low_class : (b : ℕ) → b ≤ 0x1a → is_control (class_of b) ≡ true
unfolding class_of
low_class b h = grind (arith, nat_tests)

pub low_control : (s : List ℕ) → 0 < length s → get_or s 0 0 ≤ 0x1a
    → IsFirst s (found_at kinds.Control 1 true)
low_control [] l high = absurd (omega arith)
low_control (b ∷ s) l high = alone (Control b) (b ∷ s) s 1 refl (low_class b high) refl refl

separator_class : (b : ℕ) → 0x1c ≤ b → b ≤ 0x1f → is_control (class_of b) ≡ true
unfolding class_of
separator_class b l h = grind (arith, nat_tests)

pub separator : (s : List ℕ) → 0 < length s → 0x1c ≤ get_or s 0 0 → get_or s 0 0 ≤ 0x1f
    → IsFirst s (found_at kinds.Control 1 true)
separator [] l low high = absurd (omega arith)
separator (b ∷ s) l low high =
    alone (Control b) (b ∷ s) s 1 refl (separator_class b low high) refl refl

stray_class : (b : ℕ) → 0xa0 ≤ b → b ≤ 0xc1 → is_high (class_of b) ≡ true
unfolding class_of
stray_class b l h = grind (arith, nat_tests)

pub low_stray : (s : List ℕ) → 0 < length s → 0xa0 ≤ get_or s 0 0 → get_or s 0 0 ≤ 0xc1
    → IsFirst s (found_at kinds.Stray 1 true)
low_stray [] l low high = absurd (omega arith)
low_stray (b ∷ s) l low high = alone (Stray b) (b ∷ s) s 1 refl (stray_class b low high) refl refl

high_class : (b : ℕ) → 0xf5 ≤ b → is_high (class_of b) ≡ true
unfolding class_of
high_class b l = grind (arith, nat_tests)

pub high_stray : (s : List ℕ) → 0 < length s → 0xf5 ≤ get_or s 0 0
    → IsFirst s (found_at kinds.Stray 1 true)
high_stray [] l low = absurd (omega arith)
high_stray (b ∷ s) l low = alone (Stray b) (b ∷ s) s 1 refl (high_class b low) refl refl

-- ---- a sequence of UTF-8

pub wide : (s : List ℕ) (n : ℕ) → IsSequence s (ahead.Whole n)
    → IsFirst s (found_at kinds.Character n true)
wide s n (p, l, h, q) =
    alone (Wide (take n s)) s (drop n s) n (sym (take-append-drop n s)) (h, q)
    (sym (length-take-le n s l)) refl

pub broken : (s : List ℕ) (n : ℕ) → IsSequence s (ahead.Broken n)
    → IsFirst s (found_at kinds.Broken n true)
broken s n (p, l, h, q) =
    alone (Broken (take n s)) s (drop n s) n (sym (take-append-drop n s)) h
    (sym (length-take-le n s l)) q

pub pending : (s : List ℕ) → IsSequence s ahead.Pending
    → IsFirst s (found_at kinds.Broken (length s) false)
pending s h = record {
  g = Broken s;
  after = [];
  whole = sym (append-nil s);
  shape = h;
  kind = refl;
  len = refl;
  finished = refl;
  last = λ _. refl;
}

-- C2 and a control
pub pair : (s : List ℕ) (b : ℕ) (x : Found) → IsSequence s (ahead.Control b)
    → IsRaw b (take (length s - 2) (drop 2 s)) x → IsFirst s (found_further 2 x)
pair s b x h r =
    let e : 0xc2 ∷ b ∷ take (length s - 2) (drop 2 s) ≡ s =
    ap (λ y. 0xc2 ∷ b ∷ y) (take_rest s 2) ∙ ap (λ y. y ++ drop 2 s) (sym h.1)
    ∙ take-append-drop 2 s in
    first_same (0xc2 ∷ b ∷ take (length s - 2) (drop 2 s)) s x (2 + x.len) (2 + x.len) e refl
    (r true)

pub raw : (s : List ℕ) (x : Found) → 0 < length s
    → IsRaw (get_or s 0 0) (take (length s - 1) (drop 1 s)) x → IsFirst s (found_further 1 x)
raw [] x l r = absurd (omega arith)
raw (b ∷ s) x l r =
    first_same (b ∷ take (length (b ∷ s) - 1) s) (b ∷ s) x (1 + x.len) (1 + x.len)
    (ap (λ y. b ∷ y) (take_rest (b ∷ s) 1)) refl (r false)

-- ---- the effect of a control of C1

raw_from : (b : ℕ) → 0x80 ≤ b → b ≤ 0x9f → is_raw (class_of b) ≡ true
unfolding class_of
raw_from b l h = grind (arith, nat_tests)

raw_low : (b : ℕ) → is_raw (class_of b) ≡ true → 0x80 ≤ b
unfolding class_of
raw_low b h = grind (arith, nat_tests)

raw_high : (b : ℕ) → is_raw (class_of b) ≡ true → b ≤ 0x9f
unfolding class_of
raw_high b h = grind (arith, nat_tests)

pub raw_range : (b : ℕ) → is_raw (class_of b) ≡ true → (0x80 ≤ b) × (b ≤ 0x9f)
raw_range b h = (raw_low b h, raw_high b h)

-- a byte has the number that its class says
abbrev fits : ℕ → Class → Bool
fits b (Introducer k) = eqb b (letter_of k)
fits b (Breaks (C1Introducer k)) = eqb b (raw_of k)
fits b (Breaks C1Terminator) = eqb b 0x9c
fits b _ = true

class_fits : (b : ℕ) → fits b (class_of b) ≡ true
unfolding class_of
class_fits b = grind (arith, nat_tests)

raw_letter : (b : ℕ) (k : Kind) → class_of b ≡ Breaks (C1Introducer k) → b ≡ raw_of k
raw_letter b k e = eqb-true b (raw_of k) (sym (ap (fits b) e) ∙ class_fits b)

letter : (b : ℕ) (k : Kind) → class_of b ≡ Introducer k → b ≡ letter_of k
letter b k e = eqb-true b (letter_of k) (sym (ap (fits b) e) ∙ class_fits b)

raw_opens : (k : Kind) → opens (class_of (raw_of k - 0x40)) ≡ true
unfolding class_of
raw_opens kind.Csi = refl
raw_opens kind.Osc = refl
raw_opens kind.Dcs = refl
raw_opens kind.Sos = refl
raw_opens kind.Pm = refl
raw_opens kind.Apc = refl

is_st : (b : ℕ) → class_of b ≡ (Breaks C1Terminator) → b ≡ 0x9c
is_st b e = eqb-true b 0x9c (sym (ap (fits b) e) ∙ class_fits b)

st_class : is_terminator (class_of 0x9c) ≡ true
unfolding class_of
st_class = refl

raw_by : (b : ℕ) (c : Class) → class_of b ≡ c → is_raw c ≡ true
    → opens (class_of (b - 0x40)) ≡ false → (b ≡ 0x9c → ⊥) → is_c1 c ≡ true
raw_by b (Breaks C1) e h n m = refl
raw_by b (Breaks (C1Introducer k)) e h n m =
    let i : opens (class_of (b - 0x40)) ≡ true =
    ap (λ y. opens (class_of (y - 0x40))) (raw_letter b k e) ∙ raw_opens k in
    absurd (true≢false (sym i ∙ n))
raw_by b (Breaks C1Terminator) e h n m = absurd (m (is_st b e))
raw_by b _ e h n m = absurd (true≢false (sym h))

control_by : (b : ℕ) (body : List ℕ) → is_c1 (class_of b) ≡ true → (p : Bool)
    → IsFirst (after_c2 p b ++ body)
    (found_further (length (after_c2 p b)) (found_at kinds.Control 0 true))
control_by b body h true = alone (HighControl true b) (0xc2 ∷ b ∷ body) body 2 refl h refl refl
control_by b body h false = alone (HighControl false b) (b ∷ body) body 1 refl h refl refl

pub raw_control : (b : ℕ) (body : List ℕ) → 0x80 ≤ b → b ≤ 0x9f → (b ≡ 0x9c → ⊥)
    → opens (class_of (b - 0x40)) ≡ false
    → IsRaw b body (found_at kinds.Control 0 true)
raw_control b body l h m n = control_by b body (raw_by b (class_of b) refl (raw_from b l h) n m)

terminator_by : (b : ℕ) (body : List ℕ) → is_terminator (class_of b) ≡ true → (p : Bool)
    → IsFirst (after_c2 p b ++ body)
    (found_further (length (after_c2 p b)) (found_at kinds.Terminator 0 true))
terminator_by b body h true = alone (Terminator true b) (0xc2 ∷ b ∷ body) body 2 refl h refl refl
terminator_by b body h false = alone (Terminator false b) (b ∷ body) body 1 refl h refl refl

pub raw_terminator : (b : ℕ) (body : List ℕ) → b ≡ 0x9c
    → IsRaw b body (found_at kinds.Terminator 0 true)
raw_terminator b body e =
    terminator_by b body (subst (λ y. is_terminator (class_of y) ≡ true) (sym e) st_class)

-- the letter of a byte that opens
letter_by : (b : ℕ) (c : Class) → class_of b ≡ c → opens c ≡ true → (k : Kind) × (b ≡ letter_of k)
letter_by b (Introducer k) e h = (k, letter b k e)
letter_by b _ e h = absurd (true≢false (sym h))

pub letter_is : (b : ℕ) → opens (class_of b) ≡ true → (k : Kind) × (b ≡ letter_of k)
letter_is b h = letter_by b (class_of b) refl h

raw_is : (b : ℕ) (k : Kind) → b - 0x40 ≡ letter_of k → b ≡ raw_of k
raw_is b kind.Csi e = omega arith
raw_is b kind.Osc e = omega arith
raw_is b kind.Dcs e = omega arith
raw_is b kind.Sos e = omega arith
raw_is b kind.Pm e = omega arith
raw_is b kind.Apc e = omega arith

opened_by : (k : Kind) (body : List ℕ) (x : Found) → IsOpened k body x → (p : Bool)
    → IsFirst (after_c2 p (raw_of k) ++ body) (found_further (length (after_c2 p (raw_of k))) x)
opened_by k body x h true = h Pair tt
opened_by k body x h false = h Raw tt

pub raw_opened : (b : ℕ) (body : List ℕ) (x : Found) → opens (class_of (b - 0x40)) ≡ true
    → ((k : Kind) → b - 0x40 ≡ letter_of k → IsOpened k body x) → IsRaw b body x
raw_opened b body x h f =
    let l = letter_is (b - 0x40) h in
    subst (λ y. IsRaw y body x) (sym (raw_is b l.0 l.1)) (opened_by l.0 body x (f l.0 l.1))

-- ---- the segments that ESC opens

pub escape_opened : (s : List ℕ) (n : ℕ) (x : Found) → n ≡ prefix_len (λ b. is_noise (class_of b)) s
    → n < length s
    → opens (class_of (get_or s n 0)) ≡ true
    → ((k : Kind) → get_or s n 0 ≡ letter_of k
    → IsOpened k (take (length s - (n + 1)) (drop (n + 1) s)) x)
    → IsFirst (0x1b ∷ s) (found_further 1 (found_further (n + 1) x))
escape_opened s n x e h o f =
    let l = letter_is (get_or s n 0) o in
    let k = l.0 in
    let q = split is_noise s n e in
    let body : List ℕ = take (length s - (n + 1)) (drop (n + 1) s) in
    let i : letter_of k ∷ body ≡ drop n s = ap (λ z. z ∷ body) (sym l.1)
    ∙ ap (λ z. get_or s n 0 ∷ z) (take_rest s (n + 1)) ∙ sym (next s n h) in
    let j : opener k (Long (take n s)) ++ body ≡ 0x1b ∷ s =
    append_assoc (0x1b ∷ take n s) (letter_of k ∷ []) body ∙ ap (λ z. 0x1b ∷ (take n s ++ z)) i
    ∙ ap (λ z. 0x1b ∷ z) (sym q.parts) in
    let m : length (0x1b ∷ take n s) ≡ 1 + length (take n s) = omega arith in
    let one : length (letter_of k ∷ []) ≡ 1 = refl in
    first_same (opener k (Long (take n s)) ++ body) (0x1b ∷ s) x
    (length (opener k (Long (take n s))) + x.len) (1 + (n + 1 + x.len)) j
    (omega (arith, length-append (0x1b ∷ take n s) (letter_of k ∷ []), q.len))
    (f k l.1 (Long (take n s)) q.passes)

-- ---- an escape sequence

noise_in : (c : Class) → is_noise c ≡ true → in_escape c ≡ true
noise_in C0 h = refl
noise_in Bell h = refl
noise_in Delete h = refl
noise_in High h = refl
noise_in Lead h = refl
noise_in _ h = absurd (true≢false (sym h))

final_by : (c : Class) → in_escape c ≡ false → is_breaker c ≡ false → ends_escape c ≡ true
final_by Parameter h i = refl
final_by (Introducer k) h i = refl
final_by Final h i = refl
final_by _ h i = absurd cc

-- no letter of an opener comes next
abbrev OpensNothing : List ℕ → Type 0
OpensNothing [] = Unit {0}
OpensNothing (b ∷ _) = opens (class_of b) ≡ false

closed_by : (b : ℕ) (s u : List ℕ) (f : ℕ) (t w : Bool) → is_noise (class_of b) ≡ t
    → in_escape (class_of b) ≡ w
    → (rest in_escape s ≡ f ∷ u → OpensNothing (rest is_noise s)
    → (is_empty (without_noise (prefix in_escape s)) && opens (class_of f)) ≡ false)
    → (if w then rest in_escape s else b ∷ s) ≡ f ∷ u
    → OpensNothing (if t then rest is_noise s else b ∷ s)
    → (is_empty (without_noise (if w then b ∷ prefix in_escape s else [])) && opens (class_of f))
    ≡ false
closed_by b s u f true true n i so e h = rw n (so e h)
closed_by b s u f true false n i so e h =
    absurd (true≢false (sym (noise_in (class_of b) n) ∙ i))
closed_by b s u f false true n i so e h = rw n refl
closed_by b s u f false false n i so e h = let j : b ≡ f = cc in
    subst (λ y. opens (class_of y) ≡ false) j h

closed : (s u : List ℕ) (f : ℕ) → rest in_escape s ≡ f ∷ u → OpensNothing (rest is_noise s)
    → (is_empty (without_noise (prefix in_escape s)) && opens (class_of f)) ≡ false
closed [] u f e h = absurd cc
closed (b ∷ s) u f e h =
    closed_by b s u f (is_noise (class_of b)) (in_escape (class_of b)) refl refl (closed s u f) e h

nothing_by : (s : List ℕ) (n : ℕ) (t : List ℕ) → drop n s ≡ t
    → (n < length s → opens (class_of (get_or s n 0)) ≡ false) → OpensNothing t
nothing_by s n [] e h = tt
nothing_by s n (b ∷ t) e h =
    let l : length (b ∷ t) ≡ 1 + length t = omega arith in
    let m : n < length s = omega (arith, length-drop n s, ap length e) in
    let i = next s n m in
    let j : get_or s n 0 ≡ b = cc in subst (λ y. opens (class_of y) ≡ false) j (h m)

module _ (s : List ℕ) (r : ℕ) (e : r ≡ prefix_len (λ b. in_escape (class_of b)) s) where
  q : Split in_escape s r
  q = split in_escape s r e

  cut : (w : Bool) → w ≡ breaks (drop r s) → (w ≡ false → drop r s ≡ [])
      → IsFirst (0x1b ∷ s) (found_further 1 (found_at kinds.CutShort r w))
  cut w f d = record {
    g = CutEscape (take r s);
    after = drop r s;
    whole = ap (λ y. 0x1b ∷ y) q.parts;
    shape = q.passes;
    kind = refl;
    len = (let l : length (0x1b ∷ take r s) ≡ 1 + length (take r s) = omega arith in
        omega (arith, q.len));
    finished = f;
    last = d;
  }

  pub escape_pending : r ≡ length s
      → IsFirst (0x1b ∷ s) (found_further 1 (found_at kinds.CutShort r false))
  escape_pending h = cut false (no_breaker (drop r s) (at_end s r h)) (λ _. at_end s r h)

  pub escape_broken : r < length s → is_breaker (class_of (get_or s r 0)) ≡ true
      → IsFirst (0x1b ∷ s) (found_further 1 (found_at kinds.CutShort r true))
  escape_broken h b = cut true (breaker (drop r s) (drop (r + 1) s) (get_or s r 0) (next s r h) b)
      (not_true (drop r s))

  pub escape_whole : (n : ℕ) → n ≡ prefix_len (λ b. is_noise (class_of b)) s
      → (n < length s → opens (class_of (get_or s n 0)) ≡ false) → r < length s
      → is_breaker (class_of (get_or s r 0)) ≡ false
      → IsFirst (0x1b ∷ s) (found_further 1 (found_at kinds.Escape (r + 1) true))
  escape_whole n i o h b =
      let f : ℕ = get_or s r 0 in
      let m = split is_noise s n i in
      let none : OpensNothing (rest is_noise s) = nothing_by s n (rest is_noise s) m.drops o in
      let c : (is_empty (without_noise (take r s)) && opens (class_of f)) ≡ false =
      subst (λ z. (is_empty (without_noise z) && opens (class_of f)) ≡ false) (sym q.takes)
      (closed s (drop (r + 1) s) f (sym q.drops ∙ next s r h) none) in
      let l : length (0x1b ∷ take r s) ≡ 1 + length (take r s) = omega arith in
      let one : length (f ∷ []) ≡ 1 = refl in record {
        g = EscapeOf (take r s) f;
        after = drop (r + 1) s;
        whole = ap (λ z. 0x1b ∷ z) q.parts ∙ ap (λ z. (0x1b ∷ take r s) ++ z) (next s r h)
            ∙ sym (append_assoc (0x1b ∷ take r s) (f ∷ []) (drop (r + 1) s));
        shape = (q.passes, final_by (class_of f) (stops in_escape s r e h) b, c);
        kind = refl;
        len = omega (arith, length-append (0x1b ∷ take r s) (f ∷ []), q.len);
        finished = refl;
        last = not_true (drop (r + 1) s);
      }
