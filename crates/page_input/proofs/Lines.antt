-- Lines of a stream that is read part by part.
use Rattle.std.proofs.Common.{ℕ, zero, suc, ◌≡◌, ◌≤◌, ◌<◌, ◌+◌, ◌-◌, ◌==◌, Bool, true, false, if◌then◌else◌, List, [], ◌∷◌, ◌++◌, length, take, drop, get_or, Option, None, Some, refl, ap, sym, ◌∙◌, subst, append_assoc, arith}
use Rattle.std.proofs.lemmas.Bool.{false_from_ne_true}
use Rattle.std.proofs.Math.Seq.{take-nil}
use Rattle.std.proofs.lemmas.List.{append-nil, drop-drop, length-drop, length-take, take-append-drop, take-take, take_all}
use Rattle.std.specs.Io.KnownBytes.{Consumes, IsAtEnd}
use Rattle.memchr.specs.Find.{IsFirstByte, is_byte}
use Rattle.page_input.specs.Lines.{feeds, first_lines, first_of}

-- ---- up to the next line feed

-- if there is none
pub none_first : (n : ℕ) (s : List ℕ)
    → ((k : ℕ) → 0 ≤ k → k < length s → is_byte 0x0a (get_or s k 0) ≡ true → ⊥)
    → (feeds s ≡ 0) × (first_lines (suc n) s ≡ s)
none_first n [] h = (refl, refl)
none_first n (b ∷ s) h =
    let (f, g) = none_first n s (λ k l m. h (suc k) (omega arith) (omega (arith, m))) in
    let no = false_from_ne_true (is_byte 0x0a b) (h 0 (omega arith) (omega arith)) in
    let none : 0 + feeds s ≡ 0 = omega (arith, f) in (
      ap (λ x. (if x then 1 else 0) + feeds s) no ∙ none,
      ap (λ x. b ∷ (if x then first_lines n s else first_lines (suc n) s)) no
          ∙ ap (λ t. b ∷ t) g,
    )

-- if one is at this place
pub next_first : (n at : ℕ) (s : List ℕ) → at < length s
    → ((k : ℕ) → 0 ≤ k → k < at → is_byte 0x0a (get_or s k 0) ≡ true → ⊥)
    → is_byte 0x0a (get_or s at 0) ≡ true
    → (feeds s ≡ suc (feeds (drop (at + 1) s)))
    × (first_lines (suc n) s ≡ take (at + 1) s ++ first_lines n (drop (at + 1) s))
next_first n at [] l h e = absurd (omega (arith, l))
next_first n zero (b ∷ s) l h e = (
  ap (λ x. (if x then 1 else 0) + feeds s) e ∙ omega arith,
  ap (λ x. b ∷ (if x then first_lines n s else first_lines (suc n) s)) e,
)
next_first n (suc at) (b ∷ s) l h e =
    let (f, g) = next_first n at s (omega (arith, l))
    (λ k i m. h (suc k) (omega arith) (omega (arith, m))) e in
    let no = false_from_ne_true (is_byte 0x0a b) (h 0 (omega arith) (omega arith)) in
    let more : suc at + 1 ≡ suc (at + 1) = omega arith in
    let same : 0 + feeds s ≡ feeds s = omega arith in (
      ap (λ x. (if x then 1 else 0) + feeds s) no ∙ same ∙ f
          ∙ ap (λ k. suc (feeds (drop k (b ∷ s)))) (sym more),
      ap (λ x. b ∷ (if x then first_lines n s else first_lines (suc n) s)) no
          ∙ ap (λ t. b ∷ t) g
          ∙ ap (λ k. take k (b ∷ s) ++ first_lines n (drop k (b ∷ s))) (sym more),
    )

-- ---- after the lines so far

take_more : (n m : ℕ) (s : List ℕ) → take (n + m) s ≡ take n s ++ take m (drop n s)
take_more zero m s = let same : 0 + m ≡ m = omega arith in ap (λ k. take k s) same
take_more (suc n) m [] = take-nil (suc n + m) ∙ sym (take-nil m)
take_more (suc n) m (b ∷ s) =
    let more : suc n + m ≡ suc (n + m) = omega arith in
    ap (λ k. take k (b ∷ s)) more ∙ ap (λ t. b ∷ t) (take_more n m s)

pub first_taken : (n end at : ℕ) (s want : List ℕ) → 0 < n
    → IsFirstByte (is_byte 0x0a) (drop end s) (Some at)
    → take end s ++ first_lines n (drop end s) ≡ want
    → take (end + (at + 1)) s ++ first_lines (n - 1) (drop (end + (at + 1)) s) ≡ want
first_taken zero end at s want l f h = absurd (omega (arith, l))
first_taken (suc n) end at s want l f h =
    let t = drop end s in
    let g = (next_first n at t f.0.high f.0.before f.1).1 in
    let same : suc n - 1 ≡ n = omega arith in
    ap (λ k. take (end + (at + 1)) s ++ first_lines k (drop (end + (at + 1)) s)) same
    ∙ ap (λ x. x ++ first_lines n (drop (end + (at + 1)) s)) (take_more end (at + 1) s)
    ∙ ap (λ k. (take end s ++ take (at + 1) t) ++ first_lines n k)
    (sym (drop-drop (at + 1) end s))
    ∙ append_assoc (take end s) (take (at + 1) t) (first_lines n (drop (at + 1) t))
    ∙ ap (λ x. take end s ++ x) (sym g) ∙ h

-- ---- a stream that another reader reads

nothing_first : (n : ℕ) → first_lines n [] ≡ []
nothing_first zero = refl
nothing_first (suc n) = refl

first_split : (n : ℕ) (x y : List ℕ)
    → first_lines n (x ++ y)
    ≡ first_lines n x ++ first_lines (n - feeds (first_lines n x)) y
first_split zero x y = refl
first_split (suc n) [] y =
    let same : suc n ≡ suc n - 0 = omega arith in ap (λ k. first_lines k y) same
first_split (suc n) (b ∷ x) y =
    by (b == 0x0a) (first_split n x y) (first_split (suc n) x y)
  where
    after : (k : ℕ) → suc n - (1 + k) ≡ n - k
    after k = omega arith

    same : (k : ℕ) → suc n - k ≡ suc n - (0 + k)
    same k = omega arith

    by : (e : Bool)
        → first_lines n (x ++ y) ≡ first_lines n x ++ first_lines (n - feeds (first_lines n x)) y
        → first_lines (suc n) (x ++ y)
        ≡ first_lines (suc n) x ++ first_lines (suc n - feeds (first_lines (suc n) x)) y
        → b ∷ (if e then first_lines n (x ++ y) else first_lines (suc n) (x ++ y))
        ≡ (b ∷ (if e then first_lines n x else first_lines (suc n) x))
        ++ first_lines (suc n - ((if e then 1 else 0)
        + feeds (if e then first_lines n x else first_lines (suc n) x))) y
    by true h k = ap (λ t. b ∷ t) h
        ∙ ap (λ k. b ∷ (first_lines n x ++ first_lines k y))
        (sym (after (feeds (first_lines n x))))
    by false h k = ap (λ t. b ∷ t) k
        ∙ ap (λ m. b ∷ (first_lines (suc n) x ++ first_lines m y))
        (same (feeds (first_lines (suc n) x)))

-- some bytes of it were read into a buffer, the first of which are these
pub first_consumed : (n count first : ℕ) (old new : Option (List ℕ)) (s : List ℕ)
    → Consumes old new (take count s) → first ≤ count
    → take first (take count s) ≡ first_lines n (take count s)
    → Consumes (first_of (Some n) old)
    (first_of (Some (n - feeds (take first (take count s)))) new) (take first s)
first_consumed n count first None new s read within is = tt
first_consumed n count first (Some x) None s read within is = read
first_consumed n count first (Some x) (Some y) s read within is =
    let t = take count s in
    ap (first_lines n) read ∙ first_split n t y
    ∙ ap (λ u. u ++ first_lines (n - feeds u) y) (sym is)
    ∙ ap (λ u. u ++ first_lines (n - feeds (take first t)) y) (take-take first count s within)

-- none were, if something may be
pub none_read : (n : ℕ) (t : List ℕ) → 0 < n → [] ≡ first_lines n t → t ≡ []
none_read zero t l h = absurd (omega (arith, l))
none_read (suc n) [] l h = refl
none_read (suc n) (b ∷ t) l h = absurd cc

pub first_ends : (n : ℕ) (known : Option (List ℕ)) → IsAtEnd known
    → IsAtEnd (first_of (Some n) known)
first_ends n None h = tt
first_ends n (Some x) h = ap (first_lines n) h ∙ nothing_first n

pub no_lines : (known : Option (List ℕ)) → IsAtEnd (first_of (Some 0) known)
no_lines None = tt
no_lines (Some x) = refl

-- ---- the parts of a slice

-- `&s[n..]`
pub rest_all : (n : ℕ) (s : List ℕ) → take (length s - n) (drop n s) ≡ drop n s
rest_all n s = take_all (length s - n) (drop n s) (omega (arith, length-drop n s))

pub counted_next : (count at : ℕ) (rest s : List ℕ)
    → IsFirstByte (is_byte 0x0a) rest (Some at) → count + length rest ≤ length s
    → count + feeds rest ≡ feeds s
    → (count + 1 + length (take (length rest - (at + 1)) (drop (at + 1) rest)) ≤ length s)
    × (count + 1 + feeds (take (length rest - (at + 1)) (drop (at + 1) rest)) ≡ feeds s)
counted_next count at rest s f within so =
    let later = drop (at + 1) rest in
    let is = rest_all (at + 1) rest in
    let e = (next_first 0 at rest f.0.high f.0.before f.1).0 in
    let high = f.0.high in (
      omega (arith, within, high, ap length is, length-drop (at + 1) rest),
      omega (arith, so, e, ap feeds is),
    )

pub all_first : (n end : ℕ) (s want : List ℕ) → 0 < n
    → IsFirstByte (is_byte 0x0a) (drop end s) None
    → take end s ++ first_lines n (drop end s) ≡ want → take (length s) s ≡ want
all_first zero end s want l f h = absurd (omega (arith, l))
all_first (suc n) end s want l f h =
    take_all (length s) s (omega arith) ∙ sym (take-append-drop end s)
    ∙ ap (λ x. take end s ++ x) (sym (none_first n (drop end s) f).1) ∙ h

pub done_first : (n end : ℕ) (s want : List ℕ) → n ≤ 0
    → take end s ++ first_lines n (drop end s) ≡ want → take end s ≡ want
done_first zero end s want l h = sym (append-nil (take end s)) ∙ h
done_first (suc n) end s want l h = absurd (omega (arith, l))

-- ---- a read

pub nothing_left : (h : Option ℕ) (n : ℕ) (known : Option (List ℕ)) → h ≡ Some n → n ≡ 0
    → IsAtEnd (first_of h known)
nothing_left h n known is none =
    subst (λ o. IsAtEnd (first_of o known)) (sym (is ∙ ap (λ k. Some k) none)) (no_lines known)

module _ (h : Option ℕ) (n count first k : ℕ) (old new : Option (List ℕ)) (b : List ℕ)
    (is : h ≡ Some n) (some : 0 < n) (reads : Consumes old new (take count b))
    (few : count ≤ length b) (within : first ≤ length (take count b))
    (taken : take first (take count b) ≡ first_lines n (take count b))
    (left : k ≡ n - feeds (take first (take count b))) where
  pub first_read : Consumes (first_of h old) (first_of (Some k) new) (take first b)
  first_read =
      let less : first ≤ count = omega (arith, within, length-take count b) in
      subst (λ o. Consumes (first_of o old) (first_of (Some k) new) (take first b)) (sym is)
      (subst (λ m. Consumes (first_of (Some n) old) (first_of (Some m) new) (take first b))
      (sym left) (first_consumed n count first old new b reads less taken))

  pub read_ends : (count ≡ 0 → 0 < length b → IsAtEnd new) → first ≡ 0 → 0 < length b
      → IsAtEnd (first_of (Some k) new)
  read_ends ends nil room =
      let t = take count b in
      let none = none_read n t some (sym (ap (λ i. take i t) nil) ∙ taken) in
      let no : count ≡ 0 = omega (arith, few, ap length none, length-take count b) in
      first_ends k new (ends no room)
