-- The numbers that digits write.
use Rattle.std.proofs.Common.{ℕ, ◌≡◌, ◌+◌, ◌-◌, ◌*◌, ◌<◌, List, [], ◌∷◌, ◌++◌, take, length, get_or, refl, ap, sym, ◌∙◌}
use Rattle.std.proofs.lemmas.List.{take_more}
use Rattle.esc_frame.specs.Bodies.{capped_at_i64, value_after}
use Rattle.esc_frame.proofs.Steps.ParamsGrow.{held_next}

pub value_push : (n : ℕ) (x : List ℕ) (b : ℕ)
    → value_after n (x ++ b ∷ []) ≡ 10 * value_after n x + (b - 0x30)
value_push n [] b = refl
value_push n (c ∷ x) b = value_push (10 * n + (c - 0x30)) x b

-- one digit more of a unit
pub value_next : (x : List ℕ) (i m : ℕ) → i < length x → m
    ≡ capped_at_i64 (value_after 0 (take i x))
    → capped_at_i64 (10 * m + (get_or x i 0 - 0x30))
    ≡ capped_at_i64 (value_after 0 (take (i + 1) x))
value_next x i m h e =
    ap (λ k. capped_at_i64 (10 * k + (get_or x i 0 - 0x30))) e
    ∙ held_next (value_after 0 (take i x)) (get_or x i 0 - 0x30)
    ∙ ap capped_at_i64 (sym (value_push 0 (take i x) (get_or x i 0)))
    ∙ ap (λ y. capped_at_i64 (value_after 0 y)) (sym (take_more x i 0 h))
