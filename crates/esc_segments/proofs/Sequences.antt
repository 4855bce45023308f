-- The sequence of UTF-8 that begins some bytes, by its bytes.
use Rattle.std.proofs.Common.{ℕ, ◌≡◌, ◌≢◌, ◌<◌, ◌≤◌, Bool, true, false, not, ◌&&◌, ◌||◌, ◌==◌, List, [], ◌∷◌, length, get_or}
use Rattle.std.proofs.Common.{refl, ap, arith}
use Rattle.std.proofs.lemmas.Bool.Decides.{nat_tests}
use Rattle.esc_segments.specs.declared.sequence.Ahead.TheVariants as ahead
use Rattle.esc_segments.specs.Places.{IsSequence}
use Rattle.esc_frame.specs.Classes.{class_of, is_raw}
use Rattle.esc_frame.specs.Sequences.{is_from, is_second, is_tail, is_sequence, is_prefix, is_pair}

from_is : (l h b : ℕ) → l ≤ b → b ≤ h → is_from l h b ≡ true
from_is l h b p q = grind (arith, nat_tests)

from_below : (l h b : ℕ) → b < l → is_from l h b ≡ false
from_below l h b p = grind (arith, nat_tests)

from_above : (l h b : ℕ) → h < b → is_from l h b ≡ false
from_above l h b p = grind (arith, nat_tests)

both : (x y : Bool) → x ≡ true → y ≡ true → (x && y) ≡ true
both true y h i = i
both false y h i = absurd cc

no_second : (x y : Bool) → y ≡ false → (x && y) ≡ false
no_second true y h = h
no_second false y h = refl

no_first : (x y : Bool) → x ≡ false → (x && y) ≡ false
no_first true y h = absurd cc
no_first false y h = refl

neither : (x y : Bool) → x ≡ false → y ≡ false → not (x || y) ≡ true
neither true y h i = absurd cc
neither false true h i = absurd cc
neither false false h i = refl

raw_from : (b : ℕ) → 0x80 ≤ b → b ≤ 0x9f → is_raw (class_of b) ≡ true
unfolding class_of
raw_from b l h = grind (arith, nat_tests)

-- ---- one byte, and a second that does not continue it

pub one_pending : (s : List ℕ) → length s ≡ 1 → 0xc2 ≤ get_or s 0 0 → get_or s 0 0 ≤ 0xf4
    → IsSequence s ahead.Pending
unfolding is_prefix
one_pending [] l low high = absurd (omega arith)
one_pending (a ∷ []) l low high = from_is 0xc2 0xf4 a low high
one_pending (a ∷ b ∷ s) l low high = absurd (omega arith)

pub one_broken : (s : List ℕ) → 1 < length s → 0xe0 ≤ get_or s 0 0 → get_or s 0 0 ≤ 0xf4
    → is_second (get_or s 0 0) (get_or s 1 0) ≡ false
    → IsSequence s (ahead.Broken 1)
unfolding is_prefix is_sequence
one_broken [] l low high second = absurd (omega arith)
one_broken (a ∷ []) l low high second = absurd (omega arith)
one_broken (a ∷ b ∷ s) l low high second = (
  omega arith,
  omega arith,
  from_is 0xc2 0xf4 a (omega arith) high,
  neither (is_from 0xc2 0xdf a && is_tail b) (is_from 0xe0 0xf4 a && is_second a b)
      (no_first (is_from 0xc2 0xdf a) (is_tail b) (from_above 0xc2 0xdf a (omega arith)))
      (no_second (is_from 0xe0 0xf4 a) (is_second a b) second),
)

-- ---- two bytes

pub two_broken : (s : List ℕ) → 1 < length s → 0xc2 ≤ get_or s 0 0 → get_or s 0 0 ≤ 0xdf
    → is_from 0x80 0xbf (get_or s 1 0) ≡ false
    → IsSequence s (ahead.Broken 1)
unfolding is_prefix is_sequence
two_broken [] l low high tail = absurd (omega arith)
two_broken (a ∷ []) l low high tail = absurd (omega arith)
two_broken (a ∷ b ∷ s) l low high tail = (
  omega arith,
  omega arith,
  from_is 0xc2 0xf4 a low (omega arith),
  neither (is_from 0xc2 0xdf a && is_tail b) (is_from 0xe0 0xf4 a && is_second a b)
      (no_second (is_from 0xc2 0xdf a) (is_tail b) tail)
      (no_first (is_from 0xe0 0xf4 a) (is_second a b) (from_below 0xe0 0xf4 a (omega arith))),
)

two_by : (a b : ℕ) (s : List ℕ) → 0xc2 ≤ a → a ≤ 0xdf → is_from 0x80 0xbf b ≡ true
    → is_pair (a ∷ b ∷ []) ≡ false
    → IsSequence (a ∷ b ∷ s) (ahead.Whole 2)
unfolding is_sequence
two_by a b s low high tail un = (
  omega arith,
  omega arith,
  both (is_from 0xc2 0xdf a) (is_tail b) (from_is 0xc2 0xdf a low high) tail,
  un,
)

no_pair : (a b : ℕ) → a ≢ 0xc2 → is_pair (a ∷ b ∷ []) ≡ false
unfolding is_pair
no_pair a b h = let e : (a == 0xc2) ≡ false = grind (arith, nat_tests) in
    no_first (a == 0xc2) (is_from 0x80 0x9f b) e

no_raw : (a b : ℕ) → 0x9f < b → is_pair (a ∷ b ∷ []) ≡ false
unfolding is_pair
no_raw a b h = no_second (a == 0xc2) (is_from 0x80 0x9f b) (from_above 0x80 0x9f b h)

pub two_whole : (s : List ℕ) → 1 < length s → 0xc2 ≤ get_or s 0 0 → get_or s 0 0 ≤ 0xdf
    → is_from 0x80 0xbf (get_or s 1 0) ≡ true → get_or s 0 0 ≢ 0xc2
    → IsSequence s (ahead.Whole 2)
two_whole [] l low high tail un = absurd (omega arith)
two_whole (a ∷ []) l low high tail un = absurd (omega arith)
two_whole (a ∷ b ∷ s) l low high tail un = two_by a b s low high tail (no_pair a b un)

pub two_high : (s : List ℕ) → 1 < length s → 0xc2 ≤ get_or s 0 0 → get_or s 0 0 ≤ 0xdf
    → is_from 0x80 0xbf (get_or s 1 0) ≡ true → 0x9f < get_or s 1 0
    → IsSequence s (ahead.Whole 2)
two_high [] l low high tail un = absurd (omega arith)
two_high (a ∷ []) l low high tail un = absurd (omega arith)
two_high (a ∷ b ∷ s) l low high tail un = two_by a b s low high tail (no_raw a b un)

tail_low : (b : ℕ) → is_from 0x80 0xbf b ≡ true → 0x80 ≤ b
tail_low b h = grind (arith, nat_tests)

pub two_control : (s : List ℕ) → 1 < length s → is_from 0x80 0xbf (get_or s 1 0) ≡ true
    → get_or s 0 0 ≡ 0xc2 → get_or s 1 0 ≤ 0x9f
    → IsSequence s (ahead.Control (get_or s 1 0))
two_control [] l tail is raw = absurd (omega arith)
two_control (a ∷ []) l tail is raw = absurd (omega arith)
two_control (a ∷ b ∷ s) l tail is raw =
    (raw_from b (tail_low b tail) raw, ap (λ x. x ∷ b ∷ []) is, omega arith)

-- ---- three

pub two_pending : (s : List ℕ) → length s ≡ 2 → 0xe0 ≤ get_or s 0 0 → get_or s 0 0 ≤ 0xf4
    → is_second (get_or s 0 0) (get_or s 1 0) ≡ true
    → IsSequence s ahead.Pending
unfolding is_prefix
two_pending [] l low high second = absurd (omega arith)
two_pending (a ∷ []) l low high second = absurd (omega arith)
two_pending (a ∷ b ∷ []) l low high second =
    both (is_from 0xe0 0xf4 a) (is_second a b) (from_is 0xe0 0xf4 a low high) second
two_pending (a ∷ b ∷ c ∷ s) l low high second = absurd (omega arith)

pub three_broken : (s : List ℕ) → 2 < length s → 0xe0 ≤ get_or s 0 0 → get_or s 0 0 ≤ 0xf4
    → is_second (get_or s 0 0) (get_or s 1 0) ≡ true
    → is_from 0x80 0xbf (get_or s 2 0) ≡ false → IsSequence s (ahead.Broken 2)
unfolding is_prefix is_sequence
three_broken [] l low high second tail = absurd (omega arith)
three_broken (a ∷ []) l low high second tail = absurd (omega arith)
three_broken (a ∷ b ∷ []) l low high second tail = absurd (omega arith)
three_broken (a ∷ b ∷ c ∷ s) l low high second tail = (
  omega arith,
  omega arith,
  both (is_from 0xe0 0xf4 a) (is_second a b) (from_is 0xe0 0xf4 a low high) second,
  neither (is_from 0xe0 0xef a && is_second a b && is_tail c) (is_from 0xf0 0xf4 a && is_second a b
      && is_tail c)
      (no_second (is_from 0xe0 0xef a && is_second a b) (is_tail c) tail)
      (no_second (is_from 0xf0 0xf4 a && is_second a b) (is_tail c) tail),
)

pub three_whole : (s : List ℕ) → 2 < length s → 0xe0 ≤ get_or s 0 0 → get_or s 0 0 < 0xf0
    → is_second (get_or s 0 0) (get_or s 1 0) ≡ true
    → is_from 0x80 0xbf (get_or s 2 0) ≡ true → IsSequence s (ahead.Whole 3)
unfolding is_sequence is_pair
three_whole [] l low high second tail = absurd (omega arith)
three_whole (a ∷ []) l low high second tail = absurd (omega arith)
three_whole (a ∷ b ∷ []) l low high second tail = absurd (omega arith)
three_whole (a ∷ b ∷ c ∷ s) l low high second tail = (
  omega arith,
  omega arith,
  both (is_from 0xe0 0xef a && is_second a b) (is_tail c)
      (both (is_from 0xe0 0xef a) (is_second a b) (from_is 0xe0 0xef a low (omega arith)) second)
      tail,
  refl,
)

-- ---- four

module _ (a b c : ℕ) (low : 0xf0 ≤ a) (high : a ≤ 0xf4) (second : is_second a b ≡ true)
    (third : is_from 0x80 0xbf c ≡ true) where
  three : is_prefix (a ∷ b ∷ c ∷ []) ≡ true
  unfolding is_prefix
  three =
      both (is_from 0xf0 0xf4 a && is_second a b) (is_tail c)
      (both (is_from 0xf0 0xf4 a) (is_second a b) (from_is 0xf0 0xf4 a low high) second) third

  four_whole_by : (d : ℕ) (s : List ℕ) → is_from 0x80 0xbf d ≡ true
      → IsSequence (a ∷ b ∷ c ∷ d ∷ s) (ahead.Whole 4)
  unfolding is_sequence is_pair
  four_whole_by d s tail = (
    omega arith,
    omega arith,
    both (is_from 0xf0 0xf4 a && is_second a b && is_tail c) (is_tail d)
        (both (is_from 0xf0 0xf4 a && is_second a b) (is_tail c)
        (both (is_from 0xf0 0xf4 a) (is_second a b) (from_is 0xf0 0xf4 a low high) second)
        third)
        tail,
    refl,
  )

  four_broken_by : (d : ℕ) (s : List ℕ) → is_from 0x80 0xbf d ≡ false
      → IsSequence (a ∷ b ∷ c ∷ d ∷ s) (ahead.Broken 3)
  unfolding is_sequence is_prefix
  four_broken_by d s tail = (
    omega arith,
    omega arith,
    three,
    neither (is_from 0xf0 0xf4 a && is_second a b && is_tail c && is_tail d) false
        (no_second (is_from 0xf0 0xf4 a && is_second a b && is_tail c) (is_tail d) tail) refl,
  )

pub three_pending : (s : List ℕ) → length s ≡ 3 → 0xf0 ≤ get_or s 0 0 → get_or s 0 0 ≤ 0xf4
    → is_second (get_or s 0 0) (get_or s 1 0) ≡ true
    → is_from 0x80 0xbf (get_or s 2 0) ≡ true → IsSequence s ahead.Pending
three_pending [] l low high second third = absurd (omega arith)
three_pending (a ∷ []) l low high second third = absurd (omega arith)
three_pending (a ∷ b ∷ []) l low high second third = absurd (omega arith)
three_pending (a ∷ b ∷ c ∷ []) l low high second third = three a b c low high second third
three_pending (a ∷ b ∷ c ∷ d ∷ s) l low high second third = absurd (omega arith)

pub four_whole : (s : List ℕ) → 3 < length s → 0xf0 ≤ get_or s 0 0 → get_or s 0 0 ≤ 0xf4
    → is_second (get_or s 0 0) (get_or s 1 0) ≡ true
    → is_from 0x80 0xbf (get_or s 2 0) ≡ true → is_from 0x80 0xbf (get_or s 3 0) ≡ true
    → IsSequence s (ahead.Whole 4)
four_whole [] l low high second third tail = absurd (omega arith)
four_whole (a ∷ []) l low high second third tail = absurd (omega arith)
four_whole (a ∷ b ∷ []) l low high second third tail = absurd (omega arith)
four_whole (a ∷ b ∷ c ∷ []) l low high second third tail = absurd (omega arith)
four_whole (a ∷ b ∷ c ∷ d ∷ s) l low high second third tail =
    four_whole_by a b c low high second third d s tail

pub four_broken : (s : List ℕ) → 3 < length s → 0xf0 ≤ get_or s 0 0 → get_or s 0 0 ≤ 0xf4
    → is_second (get_or s 0 0) (get_or s 1 0) ≡ true
    → is_from 0x80 0xbf (get_or s 2 0) ≡ true → is_from 0x80 0xbf (get_or s 3 0) ≡ false
    → IsSequence s (ahead.Broken 3)
four_broken [] l low high second third tail = absurd (omega arith)
four_broken (a ∷ []) l low high second third tail = absurd (omega arith)
four_broken (a ∷ b ∷ []) l low high second third tail = absurd (omega arith)
four_broken (a ∷ b ∷ c ∷ []) l low high second third tail = absurd (omega arith)
four_broken (a ∷ b ∷ c ∷ d ∷ s) l low high second third tail =
    four_broken_by a b c low high second third d s tail
