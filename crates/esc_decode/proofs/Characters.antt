-- Characters stay.
use Rattle.std.proofs.Common.{ℕ, ◌≡◌, ◌+◌, ◌/◌, ◌%◌, ◌<◌, ◌≤◌, inl, inr, ◌&&◌, Bool, nat_lt, true, false, if◌then◌else◌, List, [], ◌∷◌, ◌++◌, arith, refl, ap, sym, ◌∙◌, subst}
use Rattle.std.proofs.lemmas.Bool.Decides.{nat_tests}
use Rattle.std.proofs.lemmas.Bool.{and_parts, cases_lt}
use Rattle.std.proofs.lemmas.List.{append-nil}
use Rattle.std.proofs.lemmas.Str.{encode_ascii}
use Rattle.std.specs.Char.{encode_utf8}
use Rattle.std.specs.Str.{IsUtf8}
use lib.Utf8.{scalar}
use Rattle.esc_frame.proofs.Cut.WellFormedIsUtf8.{four_is, none_five, none_none, none_one, spells_clear, three_is, two_is}
use Rattle.esc_frame.specs.Sequences.{is_from, is_prefix, is_second, is_sequence, is_tail}
use Rattle.esc_decode.specs.Masks.{Stay, begun_after, masked_bytes, masked_after}
use Rattle.esc_decode.proofs.Masks.{low_step}
use Rattle.esc_decode.specs.Spellings.{spell_all, spelling}
use Rattle.esc_decode.proofs.Spelled.{spells_all}
use Rattle.esc_decode.proofs.Outcomes.{is_more, is_whole, mask_step, more_step, no_sequence, whole_step}

-- ---- the prefixes of a sequence

prefix_one : (a : ℕ) → 0xc2 ≤ a → a ≤ 0xf4 → is_prefix (a ∷ []) ≡ true
unfolding is_prefix
prefix_one a l h = grind (arith, nat_tests)

prefix_two : (a b : ℕ) → is_prefix (a ∷ b ∷ []) ≡ true → is_sequence (a ∷ b ∷ []) ≡ false
unfolding is_prefix is_sequence
prefix_two a b h = let l : 0xe0 ≤ a = grind (arith, nat_tests) in grind (arith, nat_tests)

prefix_three : (a b c : ℕ) → is_prefix (a ∷ b ∷ c ∷ []) ≡ true → (is_prefix (a ∷ b ∷ []) ≡ true)
    × (is_sequence (a ∷ b ∷ c ∷ []) ≡ false)
unfolding is_prefix is_sequence
prefix_three a b c h =
    let l : 0xf0 ≤ a = grind (arith, nat_tests) in
    let m : a ≤ 0xf4 = grind (arith, nat_tests) in
    let t : is_second a b ≡ true =
    (and_parts (is_from 0xf0 0xf4 a) (is_second a b)
    (and_parts (is_from 0xf0 0xf4 a && is_second a b) (is_tail c) h).0).1 in
    (rw t (grind (arith, nat_tests)), grind (arith, nat_tests))

sequence_three : (a b c : ℕ) → is_sequence (a ∷ b ∷ c ∷ []) ≡ true → is_prefix (a ∷ b ∷ []) ≡ true
unfolding is_prefix is_sequence
sequence_three a b c h =
    let l : 0xe0 ≤ a = grind (arith, nat_tests) in
    let m : a ≤ 0xef = grind (arith, nat_tests) in
    let t : is_second a b ≡ true = (and_parts (is_from 0xe0 0xef a) (is_second a b)
    (and_parts (is_from 0xe0 0xef a && is_second a b) (is_tail c) h).0).1 in
    rw t (grind (arith, nat_tests))

sequence_four : (a b c d : ℕ) → is_sequence (a ∷ b ∷ c ∷ d ∷ []) ≡ true
    → is_prefix (a ∷ b ∷ c ∷ []) ≡ true
unfolding is_prefix is_sequence
sequence_four a b c d h =
    (and_parts (is_from 0xf0 0xf4 a && is_second a b && is_tail c) (is_tail d) h).0

-- ---- some bytes, whatever follows them

-- they stay, and leave this begun
abbrev LeaveBegun : List ℕ → List ℕ → Type 0
LeaveBegun x f = (t : List ℕ) → (masked_after [] (x ++ t) ≡ x ++ masked_after f t)
    × (begun_after [] (x ++ t) ≡ begun_after f t)

left_one : (a : ℕ) → is_prefix (a ∷ []) ≡ true → LeaveBegun (a ∷ []) (a ∷ [])
left_one a h t = more_step [] a t (is_more [] a (no_sequence a) h)

left_two : (a b : ℕ) → is_prefix (a ∷ []) ≡ true → is_prefix (a ∷ b ∷ []) ≡ true
    → LeaveBegun (a ∷ b ∷ []) (a ∷ b ∷ [])
left_two a b h k t =
    let p = left_one a h (b ∷ t) in
    let q = more_step (a ∷ []) b t (is_more (a ∷ []) b (prefix_two a b k) k) in
    (p.0 ∙ ap (λ y. a ∷ y) q.0, p.1 ∙ q.1)

left_three : (a b c : ℕ) → is_prefix (a ∷ []) ≡ true → is_prefix (a ∷ b ∷ c ∷ []) ≡ true
    → LeaveBegun (a ∷ b ∷ c ∷ []) (a ∷ b ∷ c ∷ [])
left_three a b c h k t =
    let r = prefix_three a b c k in
    let p = left_two a b h r.0 (c ∷ t) in
    let q = more_step (a ∷ b ∷ []) c t (is_more (a ∷ b ∷ []) c r.1 k) in
    (p.0 ∙ ap (λ y. a ∷ b ∷ y) q.0, p.1 ∙ q.1)

pub sequence_leaves : (x : List ℕ) → is_sequence x ≡ true → LeaveBegun x []
sequence_leaves [] h t = absurd (none_none h)
sequence_leaves (a ∷ []) h t = absurd (none_one a h)
sequence_leaves (a ∷ b ∷ []) h t =
    let r = two_is a b h in
    let p = left_one a (prefix_one a (omega (arith, r.0)) (omega (arith, r.1))) (b ∷ t) in
    let q = whole_step (a ∷ []) b t (is_whole (a ∷ []) b h) in
    (p.0 ∙ ap (λ y. a ∷ y) q.0, p.1 ∙ q.1)
sequence_leaves (a ∷ b ∷ c ∷ []) h t =
    let r = three_is a b c h in
    let p = left_two a b (prefix_one a (omega (arith, r.0)) (omega (arith, r.1)))
    (sequence_three a b c h) (c ∷ t) in
    let q = whole_step (a ∷ b ∷ []) c t (is_whole (a ∷ b ∷ []) c h) in
    (p.0 ∙ ap (λ y. a ∷ b ∷ y) q.0, p.1 ∙ q.1)
sequence_leaves (a ∷ b ∷ c ∷ d ∷ []) h t =
    let r = four_is a b c d h in
    let p = left_three a b c (prefix_one a (omega (arith, r.0)) (omega (arith, r.1)))
    (sequence_four a b c d h) (d ∷ t) in
    let q = whole_step (a ∷ b ∷ c ∷ []) d t (is_whole (a ∷ b ∷ c ∷ []) d h) in
    (p.0 ∙ ap (λ y. a ∷ b ∷ c ∷ y) q.0, p.1 ∙ q.1)
sequence_leaves (a ∷ b ∷ c ∷ d ∷ e ∷ x) h t = absurd (none_five a b c d e x h)

pub sequence_begun : (x : List ℕ) → is_sequence x ≡ true → begun_after [] x ≡ []
sequence_begun x h = ap (begun_after []) (sym (append-nil x)) ∙ (sequence_leaves x h []).1

-- a prefix of one
pub prefix_begun : (x : List ℕ) → is_prefix x ≡ true → begun_after [] x ≡ x
unfolding is_prefix
prefix_begun [] h = absurd cc
prefix_begun (a ∷ []) h = (left_one a h []).1
prefix_begun (a ∷ b ∷ []) h = (left_two a b (first_two a b h) h []).1
  where
    first_two : (a b : ℕ) → is_prefix (a ∷ b ∷ []) ≡ true → is_prefix (a ∷ []) ≡ true
    first_two a b h = grind (arith, nat_tests)
prefix_begun (a ∷ b ∷ c ∷ []) h = (left_three a b c (first_three a b c h) h []).1
  where
    first_three : (a b c : ℕ) → is_prefix (a ∷ b ∷ c ∷ []) ≡ true → is_prefix (a ∷ []) ≡ true
    first_three a b c h = grind (arith, nat_tests)
prefix_begun (a ∷ b ∷ c ∷ d ∷ x) h = absurd cc

-- ---- the characters of a text

encode_pair : (c : ℕ) → 128 ≤ c → c < 0xa0 → encode_utf8 c ≡ 0xc2 ∷ c ∷ []
unfolding encode_utf8
encode_pair c l h =
    let one : nat_lt c 128 ≡ false = grind (arith, nat_tests) in
    let two : nat_lt c 2048 ≡ true = grind (arith, nat_tests) in
    let first : 192 + c / 64 ≡ 0xc2 = omega arith in
    let second : 128 + c % 64 ≡ c = omega arith in
    rw (one, two, first, second) refl

pair_sequence : (c : ℕ) → 128 ≤ c → c < 0xa0 → is_sequence (0xc2 ∷ c ∷ []) ≡ true
unfolding is_sequence
pair_sequence c l h = grind (arith, nat_tests)

low_leaves : (c : ℕ) → c < 128 → LeaveBegun (c ∷ []) []
low_leaves c l t = low_step [] c t l

character_leaves : (c : ℕ) → scalar c ≡ true → LeaveBegun (encode_utf8 c) []
character_leaves c s = elim (cases_lt c 128) [
  | inl l ↦ subst (λ x. LeaveBegun x []) (sym (encode_ascii c l)) (low_leaves c l)
  | inr l ↦ elim (cases_lt c 0xa0) [
    | inl h ↦ subst (λ x. LeaveBegun x []) (sym (encode_pair c l h))
        (sequence_leaves (0xc2 ∷ c ∷ []) (pair_sequence c l h))
    | inr h ↦ sequence_leaves (encode_utf8 c) (spells_clear c s h).0
  ]
]

spelling_leaves : (n : ℕ) (t : Bool) → scalar n ≡ t
    → LeaveBegun (if t then encode_utf8 n else 0xff ∷ []) []
spelling_leaves n true e = character_leaves n e
spelling_leaves n false e = mask_step []

-- and FF in place of one that is not there
pub spelled_stays : (ns : List ℕ) → Stay (spell_all ns)
spelled_stays [] = (refl, refl)
spelled_stays (n ∷ ns) =
    let one = spelling_leaves n (scalar n) refl (spell_all ns) in
    let more = spelled_stays ns in
    (one.0 ∙ ap (λ y. spelling n ++ y) more.0, one.1 ∙ more.1)

pub utf8_stays : (s : List ℕ) → IsUtf8 s → Stay s
utf8_stays s u = subst Stay (spells_all u.0 u.1.0 ∙ u.1.1) (spelled_stays u.0)

pub text_stays : (s : List ℕ) → IsUtf8 s → masked_bytes s ≡ s
text_stays s u = (utf8_stays s u).0
