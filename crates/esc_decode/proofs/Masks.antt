-- Masked streams, byte by byte.
use Rattle.std.proofs.Common.{ℕ, suc, ◌≡◌, ◌<◌, ◌⊎◌, inl, inr, Bool, true, false, if◌then◌else◌, List, [], ◌∷◌, ◌++◌, ◌+◌, ◌≤◌, length, drop, get_or, set, take, append_assoc, arith, refl, ap, sym, ◌∙◌}
use Rattle.std.specs.List.{list_all}
use Rattle.std.proofs.lemmas.Bool.Decides.{nat_tests}
use Rattle.std.proofs.lemmas.Bool.{and_parts}
use Rattle.std.proofs.lemmas.List.{append-nil, drop-set-lt, drop_all, drop_more, take_all, take_more_set}
use Rattle.esc_frame.specs.Scans.{is_text_byte}
use Rattle.esc_frame.specs.Sequences.{outcome}
use Rattle.esc_frame.specs.declared.utf8.sequence.Outcome.{Outcome}
use Rattle.esc_frame.specs.declared.utf8.sequence.Outcome.TheVariants.{Whole, More, Broken}
use Rattle.esc_decode.specs.Masks.{IsMaskOf, Stay, begun_after, is_raw, masked_bytes, masked_after, masked_byte, next_begun}
use Rattle.esc_decode.proofs.Outcomes.{low_byte}

-- ---- bytes, and then more

pub masked_append : (f x y : List ℕ)
    → masked_after f (x ++ y) ≡ masked_after f x ++ masked_after (begun_after f x) y
masked_append f [] y = refl
masked_append f (b ∷ x) y =
    ap (λ t. masked_byte b (outcome f b) ∷ t) (masked_append (next_begun f b (outcome f b)) x y)

pub begun_append : (f x y : List ℕ) → begun_after f (x ++ y) ≡ begun_after (begun_after f x) y
begun_append f [] y = refl
begun_append f (b ∷ x) y = begun_append (next_begun f b (outcome f b)) x y

pub by_chunks : (s t : List ℕ) → masked_bytes (s ++ t) ≡ masked_bytes s
    ++ masked_after (begun_after [] s) t
by_chunks s t = masked_append [] s t

-- the byte at a place is masked, where these have begun before it, and those after it are left
pub one_masked : (f g s t : List ℕ) (at b c : ℕ) → at < length s → b ≡ get_or s at b
    → g ≡ next_begun f b (outcome f b) → c ≡ masked_byte b (outcome f b)
    → take at s ++ masked_after f (drop at s) ≡ t
    → take (at + 1) (set s at c) ++ masked_after g (drop (at + 1) (set s at c)) ≡ t
one_masked f g s t at b c less is e k h =
    let rest = drop (at + 1) s in
    ap (λ x. x ++ masked_after g (drop (at + 1) (set s at c))) (take_more_set s at c less)
    ∙ ap (λ y. (take at s ++ c ∷ []) ++ masked_after g y)
    (drop-set-lt (at + 1) s at c (omega arith))
    ∙ append_assoc (take at s) (c ∷ []) (masked_after g rest)
    ∙ ap (λ z. take at s ++ z ∷ masked_after g rest) k
    ∙ ap (λ z. take at s ++ masked_byte b (outcome f b) ∷ masked_after z rest) e
    ∙ ap (λ z. take at s ++ masked_after f (z ∷ rest)) is
    ∙ ap (λ y. take at s ++ masked_after f y) (sym (drop_more s at b less))
    ∙ h

-- each byte was
pub all_masked : (g s t : List ℕ) (n : ℕ) → length s ≤ n
    → take n s ++ masked_after g (drop n s) ≡ t → s ≡ t
all_masked g s t n all h =
    sym (take_all n s all)
    ∙ sym (append-nil (take n s))
    ∙ ap (λ y. take n s ++ masked_after g y) (sym (drop_all n s all))
    ∙ h

-- ---- each byte

length_after : (f s : List ℕ) → length (masked_after f s) ≡ length s
length_after f [] = refl
length_after f (b ∷ s) = ap suc (length_after (next_begun f b (outcome f b)) s)

pub length_stays : (s : List ℕ) → length (masked_bytes s) ≡ length s
length_stays s = length_after [] s

one_by : (b : ℕ) (t : Bool) → is_raw b ≡ t
    → ((if t then 0xff else b) ≡ b) ⊎ ((is_raw b ≡ true) × ((if t then 0xff else b) ≡ 0xff))
one_by b true e = inr (e, refl)
one_by b false e = inl refl

one_is : (b : ℕ) (o : Outcome)
    → (masked_byte b o ≡ b) ⊎ ((is_raw b ≡ true) × (masked_byte b o ≡ 0xff))
one_is b Whole = inl refl
one_is b More = inl refl
one_is b Broken = one_by b (is_raw b) refl

each_after : (f s : List ℕ) → IsMaskOf s (masked_after f s)
each_after f [] = tt
each_after f (b ∷ s) =
    (one_is b (outcome f b), each_after (next_begun f b (outcome f b)) s)

pub each_is : (s : List ℕ) → IsMaskOf s (masked_bytes s)
each_is s = each_after [] s

-- ---- ASCII

pub low_step : (f : List ℕ) (b : ℕ) (t : List ℕ) → b < 0x80
    → (masked_after f (b ∷ t) ≡ b ∷ masked_after [] t)
    × (begun_after f (b ∷ t) ≡ begun_after [] t)
low_step f b t l = let q = low_byte f b l in (
  ap (λ c. c ∷ masked_after (next_begun f b (outcome f b)) t) q.0
      ∙ ap (λ g. b ∷ masked_after g t) q.1,
  ap (λ g. begun_after g t) q.1,
)

pub ascii_stays : (s t : List ℕ) (b : ℕ) → b < 0x80
    → masked_bytes (s ++ b ∷ t) ≡ masked_bytes s ++ b ∷ masked_bytes t
ascii_stays s t b l = masked_append [] s (b ∷ t)
    ∙ ap (λ y. masked_bytes s ++ y) (low_step (begun_after [] s) b t l).0

-- a byte of ASCII at the end leaves nothing begun
pub begun_low : (f x : List ℕ) (b : ℕ) → b < 0x80 → begun_after f (x ++ b ∷ []) ≡ []
begun_low f x b l = begun_append f x (b ∷ []) ∙ (low_step (begun_after f x) b [] l).1

text_low : (b : ℕ) → is_text_byte b ≡ true → b < 0x80
text_low b h = grind (arith, nat_tests)

pub run_stays : (x : List ℕ) → list_all is_text_byte x ≡ true → Stay x
run_stays [] h = (refl, refl)
run_stays (b ∷ x) h =
    let q = and_parts (is_text_byte b) (list_all is_text_byte x) h in
    let one = low_step [] b x (text_low b q.0) in
    let more = run_stays x q.1 in (
      one.0 ∙ ap (λ y. b ∷ y) more.0,
      one.1 ∙ more.1,
    )
