use Rattle.std.proofs.Common.{rules, ℕ, ◌<◌, ◌^◌, zero, suc, arith}
use Rattle.esc_osc_values.proofs.read_color.read_hex.Goals as goal

-- the number of at most three digits
three_digits : (v n : ℕ) → v < 16 ^ n → n < 4 → v < 4096
three_digits v zero h few = omega (arith, h)
three_digits v (suc zero) h few = omega (arith, h)
three_digits v (suc (suc zero)) h few = omega (arith, h)
three_digits v (suc (suc (suc zero))) h few = omega (arith, h)
three_digits v (suc (suc (suc (suc n)))) h few = absurd (omega (arith, few))

pub overflow_mul-value : goal.overflow_mul-value
overflow_mul-value c =
    let few = three_digits c.loop-digit.value c.loop-digit.digit-index c.loop-digit.invariant.1
    (omega (arith, c.requires, c.loop-digit-test.true)) in
    omega (arith, few)

pub overflow_add-value : goal.overflow_add-value
overflow_add-value c =
    let few = three_digits c.loop-digit.value c.loop-digit.digit-index c.loop-digit.invariant.1
    (omega (arith, c.requires, c.loop-digit-test.true)) in
    search (rules, few)
