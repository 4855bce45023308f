-- Runs of digits.
use Rattle.std.proofs.Common.{◌≡◌, ℕ, ◌+◌, ◌-◌, ◌*◌, ◌<◌, ◌≤◌, List, [], ◌∷◌, ◌++◌, length, take, get_or, set, Some, None, refl, ap, sym, subst, ◌∙◌, arith}
use Rattle.std.specs.List.{All}
use Rattle.std.specs.Option.{unwrap_or}
use Rattle.std.proofs.lemmas.Bool.Decides.{nat_tests}
use Rattle.std.proofs.lemmas.List.{get_or-set_same, length-set, set-set, take_more}
use Rattle.std.proofs.lemmas.List.Elements.{All-append, All-nil, All-cons}
use Rattle.esc_values.specs.Params.{capped_at_i64}
use Rattle.esc_sixel.specs.Classes.{IsDigit}
use Rattle.esc_sixel.specs.Lines.{number_after}
use Rattle.esc_sixel.specs.Runs.{more_digit, more_digits}
use Rattle.esc_sixel.specs.declared.parameters.Parameters.{Parameters}

number_push : (n : ℕ) (bs : List ℕ) (b : ℕ)
    → number_after n (bs ++ b ∷ []) ≡ capped_at_i64 (10 * number_after n bs + (b - 0x30))
number_push n [] b = refl
number_push n (x ∷ bs) b = number_push (capped_at_i64 (10 * n + (x - 0x30))) bs b

pub number_more : (xs : List ℕ) (i n m after : ℕ) → i < length xs → m ≡ number_after n (take i xs)
    → after ≡ capped_at_i64 (10 * m + (get_or xs i 0 - 0x30))
    → after ≡ number_after n (take (i + 1) xs)
number_more xs i n m after lt e f =
    f
    ∙ ap (λ k. capped_at_i64 (10 * k + (get_or xs i 0 - 0x30))) e
    ∙ sym (number_push n (take i xs) (get_or xs i 0))
    ∙ ap (number_after n) (sym (take_more xs i 0 lt))

pub digit_more : (xs : List ℕ) (i : ℕ) → i < length xs → All IsDigit (take i xs)
    → 0x30 ≤ get_or xs i 0 → get_or xs i 0 ≤ 0x39 → All IsDigit (take (i + 1) xs)
digit_more xs i lt a low high =
    let one : IsDigit (get_or xs i 0) = within (get_or xs i 0) low high in
    subst (All IsDigit) (sym (take_more xs i 0 lt))
    (All-append IsDigit (take i xs) (get_or xs i 0 ∷ []) a
    (All-cons IsDigit _ [] one (All-nil IsDigit)))
  where
    within : (b : ℕ) → 0x30 ≤ b → b ≤ 0x39 → IsDigit b
    within b low high = grind (arith, nat_tests)

-- digits of a parameter are one write of its number
abbrev pub written : Parameters → ℕ → Parameters
written p n = record { values = set p.values p.count (Some n); count = p.count }

pub digits_written : (p : Parameters) (bs : List ℕ) → p.count < length p.values → 0 < length bs
    → more_digits p bs ≡ written p (number_after (unwrap_or (get_or p.values p.count None) 0) bs)
digits_written p [] lt some = absurd (omega (arith, some))
digits_written p (b ∷ []) lt some = refl
digits_written p (b ∷ x ∷ bs) lt some =
    let n = capped_at_i64 (10 * unwrap_or (get_or p.values p.count None) 0 + (b - 0x30)) in
    let vs = set p.values p.count (Some n) in
    digits_written (more_digit p b) (x ∷ bs)
    (omega (arith, lt, length-set p.values p.count (Some n))) (omega arith)
    ∙ ap (λ o. written (more_digit p b) (number_after (unwrap_or o 0) (x ∷ bs)))
    (get_or-set_same p.values p.count (Some n) None lt)
    ∙ ap (λ t. record p { values = t })
    (set-set p.values p.count (Some n) (Some (number_after n (x ∷ bs))))
