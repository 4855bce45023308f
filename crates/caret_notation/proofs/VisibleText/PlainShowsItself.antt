-- Characters whose visible text they are themselves.
use Rattle.std.proofs.Common.{ℕ, ◌≡◌, ◌==◌, true, false, nat_lt, if◌then◌else◌, List, [], ◌∷◌, ◌++◌, arith, refl, ap, ◌∙◌}
use Rattle.std.specs.List.{list_all}
use Rattle.std.proofs.lemmas.Bool.Decides.{nat_tests}
use Rattle.std.proofs.lemmas.Bool.{and_parts}
use Rattle.esc_frame.specs.declared.utf8.sequence.Outcome.TheVariants.{Broken, More, Whole}
use Rattle.esc_frame.specs.Sequences.{is_prefix, is_sequence, outcome}
use Rattle.caret_notation.specs.Runs.{is_plain}
use Rattle.caret_notation.specs.Visible.{begun_after, next_begun, next_text, settled_text, single_text}

no_prefix : (b : ℕ) → is_plain b ≡ true → is_prefix (b ∷ []) ≡ false
unfolding is_prefix
no_prefix b h = grind (arith, nat_tests)

no_sequence : (b : ℕ) → is_sequence (b ∷ []) ≡ false
unfolding is_sequence
no_sequence b = refl

itself : (b : ℕ) → is_plain b ≡ true → single_text b ≡ b ∷ []
itself b h =
    let high : nat_lt b 0x80 ≡ true = grind (arith, nat_tests) in
    let low : nat_lt b 0x20 ≡ false = grind (arith, nat_tests) in
    let delete : (b == 0x7f) ≡ false = grind (arith, nat_tests) in
    let one : (b == 0x3c) ≡ false = grind (arith, nat_tests) in
    let two : (b == 0x5e) ≡ false = grind (arith, nat_tests) in
    rw (high, low, delete, one, two) refl

next_plain : (b : ℕ) → is_plain b ≡ true
    → (next_text [] b (outcome [] b) ≡ b ∷ []) × (next_begun [] b (outcome [] b) ≡ [])
next_plain b h =
    let broken : outcome [] b ≡ Broken =
    ap (λ t. if t then Whole else if is_prefix (b ∷ []) then More else Broken) (no_sequence b)
    ∙ ap (λ t. if t then More else Broken) (no_prefix b h) in (
      ap (next_text [] b) broken
          ∙ ap (λ t. if t then [] else single_text b) (no_prefix b h) ∙ itself b h,
      ap (next_begun [] b) broken ∙ ap (λ t. if t then b ∷ [] else []) (no_prefix b h),
    )

pub plain_settled : (x : List ℕ) → list_all is_plain x ≡ true
    → (settled_text [] x ≡ x) × (begun_after [] x ≡ [])
plain_settled [] h = (refl, refl)
plain_settled (b ∷ x) h =
    let q = and_parts (is_plain b) (list_all is_plain x) h in
    let one = next_plain b q.0 in
    let more = plain_settled x q.1 in (
      ap (λ f. next_text [] b (outcome [] b) ++ settled_text f x) one.1
          ∙ ap (λ t. t ++ settled_text [] x) one.0 ∙ ap (λ t. b ∷ t) more.0,
      ap (λ f. begun_after f x) one.1 ∙ more.1,
    )
