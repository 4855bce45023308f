-- The outcome of a byte after the begun bytes.
use Rattle.std.proofs.Common.{ℕ, ◌≡◌, ◌<◌, ◌≤◌, Bool, true, false, if◌then◌else◌, List, [], ◌∷◌, ◌++◌, arith, refl, ap, sym, ◌∙◌}
use Rattle.std.proofs.lemmas.Bool.Decides.{nat_tests}
use Rattle.esc_frame.proofs.Cut.WellFormedIsUtf8.{four_is, none_five, none_one, three_is, two_is}
use Rattle.esc_frame.specs.Sequences.{is_prefix, is_sequence, outcome}
use Rattle.esc_frame.specs.declared.utf8.sequence.Outcome.TheVariants.{Whole, More, Broken}
use Rattle.esc_decode.specs.Masks.{begun_after, first_begun, is_raw, masked_after, masked_byte, next_begun}

-- ---- a byte of a character

sequence_byte : (f : List ℕ) (b : ℕ) → is_sequence (f ++ b ∷ []) ≡ true
    → (0x80 ≤ b) × (b ≤ 0xf4)
sequence_byte [] b h = absurd (none_one b h)
sequence_byte (a ∷ []) b h = let q = two_is a b h in (omega (arith, q.2), omega (arith, q.3))
sequence_byte (a ∷ c ∷ []) b h =
    let q = three_is a c b h in (omega (arith, q.6), omega (arith, q.7))
sequence_byte (a ∷ c ∷ d ∷ []) b h =
    let q = four_is a c d b h in (omega (arith, q.8), omega (arith, q.9))
sequence_byte (a ∷ c ∷ d ∷ e ∷ []) b h = absurd (none_five a c d e b [] h)
sequence_byte (a ∷ c ∷ d ∷ e ∷ g ∷ f) b h = absurd (none_five a c d e g (f ++ b ∷ []) h)

prefix_byte : (f : List ℕ) (b : ℕ) → is_prefix (f ++ b ∷ []) ≡ true → (0x80 ≤ b) × (b ≤ 0xf4)
unfolding is_prefix
prefix_byte [] b h = (grind (arith, nat_tests), grind (arith, nat_tests))
prefix_byte (a ∷ []) b h = (grind (arith, nat_tests), grind (arith, nat_tests))
prefix_byte (a ∷ c ∷ []) b h = (grind (arith, nat_tests), grind (arith, nat_tests))
prefix_byte (a ∷ c ∷ d ∷ []) b h = absurd cc
prefix_byte (a ∷ c ∷ d ∷ e ∷ f) b h = absurd cc

-- a byte of none goes on nothing
outcome_other : (f : List ℕ) (b : ℕ) → ((0x80 ≤ b) × (b ≤ 0xf4) → ⊥) → outcome f b ≡ Broken
outcome_other f b other = by (is_sequence (f ++ b ∷ [])) (is_prefix (f ++ b ∷ [])) refl refl
  where
    by : (x y : Bool) → is_sequence (f ++ b ∷ []) ≡ x → is_prefix (f ++ b ∷ []) ≡ y
        → (if x then Whole else if y then More else Broken) ≡ Broken
    by true y e k = absurd (other (sequence_byte f b e))
    by false true e k = absurd (other (prefix_byte f b k))
    by false false e k = refl

pub outcome_low : (f : List ℕ) (b : ℕ) → b < 0x80 → outcome f b ≡ Broken
outcome_low f b l = outcome_other f b (λ q. omega (arith, q.0))

pub outcome_mask : (f : List ℕ) → outcome f 0xff ≡ Broken
outcome_mask f = outcome_other f 0xff (λ q. omega (arith, q.1))

-- ---- a byte of ASCII

low_raw : (b : ℕ) → b < 0x80 → is_raw b ≡ false
low_raw b l = grind (arith, nat_tests)

low_prefix : (b : ℕ) → b < 0x80 → is_prefix (b ∷ []) ≡ false
unfolding is_prefix
low_prefix b l = grind (arith, nat_tests)

pub low_byte : (f : List ℕ) (b : ℕ) → b < 0x80
    → (masked_byte b (outcome f b) ≡ b) × (next_begun f b (outcome f b) ≡ [])
low_byte f b l = let e = outcome_low f b l in (
  ap (masked_byte b) e ∙ ap (λ t. if t then 0xff else b) (low_raw b l),
  ap (next_begun f b) e ∙ ap (λ t. if t then b ∷ [] else []) (low_prefix b l),
)

-- ---- a byte that begins or goes on a character

pub is_whole : (f : List ℕ) (b : ℕ) → is_sequence (f ++ b ∷ []) ≡ true → outcome f b ≡ Whole
is_whole f b h = rw h refl

pub is_more : (f : List ℕ) (b : ℕ) → is_sequence (f ++ b ∷ []) ≡ false
    → is_prefix (f ++ b ∷ []) ≡ true → outcome f b ≡ More
is_more f b h k = rw (h, k) refl

pub whole_step : (f : List ℕ) (b : ℕ) (s : List ℕ) → outcome f b ≡ Whole
    → (masked_after f (b ∷ s) ≡ b ∷ masked_after [] s)
    × (begun_after f (b ∷ s) ≡ begun_after [] s)
whole_step f b s e = (
  ap (λ o. masked_byte b o ∷ masked_after (next_begun f b o) s) e,
  ap (λ o. begun_after (next_begun f b o) s) e,
)

pub more_step : (f : List ℕ) (b : ℕ) (s : List ℕ) → outcome f b ≡ More
    → (masked_after f (b ∷ s) ≡ b ∷ masked_after (f ++ b ∷ []) s)
    × (begun_after f (b ∷ s) ≡ begun_after (f ++ b ∷ []) s)
more_step f b s e = (
  ap (λ o. masked_byte b o ∷ masked_after (next_begun f b o) s) e,
  ap (λ o. begun_after (next_begun f b o) s) e,
)

pub no_sequence : (b : ℕ) → is_sequence (b ∷ []) ≡ false
unfolding is_sequence
no_sequence b = refl

-- if nothing has begun
none_broken : (b : ℕ) → is_prefix (b ∷ []) ≡ false → outcome [] b ≡ Broken
none_broken b e = rw (no_sequence b, e) refl

pub nothing_begun : (b : ℕ) → next_begun [] b (outcome [] b) ≡ first_begun b
nothing_begun b = by (is_prefix (b ∷ [])) refl
  where
    by : (t : Bool) → is_prefix (b ∷ []) ≡ t → next_begun [] b (outcome [] b) ≡ first_begun b
    by true e = ap (next_begun [] b) (is_more [] b (no_sequence b) e)
        ∙ sym (ap (λ t. if t then b ∷ [] else []) e)
    by false e = ap (next_begun [] b) (none_broken b e)

-- FF stays, and begins nothing
mask_begun : first_begun 0xff ≡ []
unfolding is_prefix
mask_begun = refl

pub mask_step : (f s : List ℕ) → (masked_after f (0xff ∷ s) ≡ 0xff ∷ masked_after [] s)
    × (begun_after f (0xff ∷ s) ≡ begun_after [] s)
mask_step f s = let e = outcome_mask f in (
  ap (λ o. masked_byte 0xff o ∷ masked_after (next_begun f 0xff o) s) e
      ∙ ap (λ g. 0xff ∷ masked_after g s) mask_begun,
  ap (λ o. begun_after (next_begun f 0xff o) s) e ∙ ap (λ g. begun_after g s) mask_begun,
)
