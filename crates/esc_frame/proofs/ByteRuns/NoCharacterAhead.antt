-- Bytes that begin with no character.
use Rattle.std.proofs.Common.{ℕ, ◌≡◌, ◌<◌, ◌≤◌, true, false, List, [], ◌∷◌, ◌++◌, length, get_or, subst, arith}
use Rattle.std.proofs.lemmas.Bool.Decides.{nat_tests}
use Rattle.esc_frame.specs.Machine.Characters.{NoneAhead}
use Rattle.esc_frame.specs.Machine.TextRuns.{NoUnitAhead}
use Rattle.esc_frame.specs.Sequences.{is_sequence, is_pair}
use Rattle.esc_frame.proofs.Cut.WellFormedIsUtf8.{two_is, three_is, four_is}

-- a sequence has two bytes at least
pub none_of_one : (rest : List ℕ) → length rest < 2 → NoneAhead rest
unfolding is_sequence
none_of_one rest l [] y e s = absurd cc
none_of_one rest l (a ∷ []) y e s = absurd cc
none_of_one rest l (a ∷ b ∷ x) y e s = let k : length (a ∷ b ∷ (x ++ y)) < 2 =
    subst (λ r. length r < 2) e l in absurd (omega arith)

-- no byte below C2 begins one
pub none_low : (rest : List ℕ) → get_or rest 0 0 < 0xc2 → NoneAhead rest
unfolding is_sequence
none_low rest l [] y e s = absurd cc
none_low rest l (a ∷ []) y e s = absurd cc
none_low rest l (a ∷ b ∷ []) y e s = let k : a < 0xc2 = subst (λ r. get_or r 0 0 < 0xc2) e l in
    absurd (omega (arith, (two_is a b s).0))
none_low rest l (a ∷ b ∷ c ∷ []) y e s = let k : a < 0xc2 = subst (λ r. get_or r 0 0 < 0xc2) e l in
    absurd (omega (arith, (three_is a b c s).0))
none_low rest l (a ∷ b ∷ c ∷ d ∷ []) y e s = let k : a < 0xc2 =
    subst (λ r. get_or r 0 0 < 0xc2) e l in absurd (omega (arith, (four_is a b c d s).0))
none_low rest l (a ∷ b ∷ c ∷ d ∷ g ∷ x) y e s = absurd cc

-- a byte below E0 begins one of two bytes
pub none_of_two : (rest : List ℕ) → get_or rest 0 0 < 0xe0
    → (is_sequence (get_or rest 0 0 ∷ get_or rest 1 0 ∷ []) ≡ true
    → is_pair (get_or rest 0 0 ∷ get_or rest 1 0 ∷ []) ≡ true) → NoneAhead rest
unfolding is_sequence
none_of_two rest l f [] y e s = absurd cc
none_of_two rest l f (a ∷ []) y e s = absurd cc
none_of_two rest l f (a ∷ b ∷ []) y e s =
    subst (λ r. is_sequence (get_or r 0 0 ∷ get_or r 1 0 ∷ []) ≡ true
    → is_pair (get_or r 0 0 ∷ get_or r 1 0 ∷ []) ≡ true) e f s
none_of_two rest l f (a ∷ b ∷ c ∷ []) y e s = let k : a < 0xe0 =
    subst (λ r. get_or r 0 0 < 0xe0) e l in absurd (omega (arith, (three_is a b c s).0))
none_of_two rest l f (a ∷ b ∷ c ∷ d ∷ []) y e s = let k : a < 0xe0 =
    subst (λ r. get_or r 0 0 < 0xe0) e l in absurd (omega (arith, (four_is a b c d s).0))
none_of_two rest l f (a ∷ b ∷ c ∷ d ∷ g ∷ x) y e s = absurd cc

-- one from E0 on begins one of three bytes, or of four
pub none_of_three : (rest : List ℕ) → 0xe0 ≤ get_or rest 0 0
    → (0xf0 ≤ get_or rest 0 0 → length rest < 4)
    → (3 ≤ length rest → is_sequence (get_or rest 0 0 ∷ get_or rest 1 0 ∷ get_or rest 2 0 ∷ [])
    ≡ false) → NoneAhead rest
unfolding is_sequence
none_of_three rest l m f [] y e s = absurd cc
none_of_three rest l m f (a ∷ []) y e s = absurd cc
none_of_three rest l m f (a ∷ b ∷ []) y e s =
    let k : 0xe0 ≤ a = subst (λ r. 0xe0 ≤ get_or r 0 0) e l in let n = two_is a b s in
    absurd (omega (arith, n))
none_of_three rest l m f (a ∷ b ∷ c ∷ []) y e s =
    let few : 3 ≤ length (a ∷ b ∷ c ∷ y) = omega arith in
    let no : is_sequence (a ∷ b ∷ c ∷ []) ≡ false = subst
    (λ r. 3 ≤ length r → is_sequence (get_or r 0 0 ∷ get_or r 1 0 ∷ get_or r 2 0 ∷ []) ≡ false) e f
    few in
    absurd cc
none_of_three rest l m f (a ∷ b ∷ c ∷ d ∷ []) y e s =
    let k : 0xf0 ≤ a → length (a ∷ b ∷ c ∷ d ∷ y) < 4 =
    subst (λ r. 0xf0 ≤ get_or r 0 0 → length r < 4) e m in
    let n = four_is a b c d s in let few = k n.0 in absurd (omega arith)
none_of_three rest l m f (a ∷ b ∷ c ∷ d ∷ g ∷ x) y e s = absurd cc

-- one from F0 on begins one of four bytes
pub none_of_four : (rest : List ℕ) → 0xf0 ≤ get_or rest 0 0
    → is_sequence (get_or rest 0 0 ∷ get_or rest 1 0 ∷ get_or rest 2 0 ∷ get_or rest 3 0 ∷ [])
    ≡ false → NoneAhead rest
unfolding is_sequence
none_of_four rest l f [] y e s = absurd cc
none_of_four rest l f (a ∷ []) y e s = absurd cc
none_of_four rest l f (a ∷ b ∷ []) y e s = let k : 0xf0 ≤ a =
    subst (λ r. 0xf0 ≤ get_or r 0 0) e l in let n = two_is a b s in absurd (omega (arith, n))
none_of_four rest l f (a ∷ b ∷ c ∷ []) y e s = let k : 0xf0 ≤ a =
    subst (λ r. 0xf0 ≤ get_or r 0 0) e l in let n = three_is a b c s in absurd (omega (arith, n))
none_of_four rest l f (a ∷ b ∷ c ∷ d ∷ []) y e s =
    let no : is_sequence (a ∷ b ∷ c ∷ d ∷ []) ≡ false = subst
    (λ r. is_sequence (get_or r 0 0 ∷ get_or r 1 0 ∷ get_or r 2 0 ∷ get_or r 3 0 ∷ []) ≡ false) e
    f in
    absurd cc
none_of_four rest l f (a ∷ b ∷ c ∷ d ∷ g ∷ x) y e s = absurd cc

-- a control of C0 is no unit
pub control_first : (rest : List ℕ) → get_or rest 0 0 < 0x20 → NoUnitAhead rest
control_first rest l = (grind (arith, nat_tests), none_low rest (omega arith))
