use Rattle.std.proofs.Common.{◌≡◌, ◌==◌, ◌-◌, ℕ, true, false, inl, inr, arith}
use Rattle.std.proofs.lemmas.Bool.Decides.{nat_tests}
use Rattle.esc_frame.specs.declared.classes.Kind.TheVariants as kind
use Rattle.esc_segments.proofs.Beginnings.{last_byte, no_dcs}
use Rattle.esc_segments.proofs.openers.opens_dcs.Goals as goal

is_one : (a b : ℕ) → a ≡ b → (a == b) ≡ true
is_one a b e = grind (arith, nat_tests)

is_no : (a b : ℕ) → (a ≡ b → ⊥) → (a == b) ≡ false
is_no a b e = grind (arith, nat_tests)

pub returns-then-bytes-len-eq80-clause-escape : goal.returns-then-bytes-len-eq80-clause-escape
returns-then-bytes-len-eq80-clause-escape c = λ x a e.
    absurd (no_dcs c.args.bytes.now x (c.opener_len-len.result - 1) a e
    (omega (arith, c.opener_len-len.ensures.few)) (inl c.if-bytes-len-eq80.true))

pub returns-else-bytes-len-eq80-clause-dcs : goal.returns-else-bytes-len-eq80-clause-dcs
returns-else-bytes-len-eq80-clause-dcs c = λ o body i e.
    elim (last_byte c.args.bytes.now c.opener_len-len.result kind.Dcs o body e
    (c.opener_len-len.ensures.len kind.Dcs o body i e)) [
      | inl p ↦ absurd (c.if-bytes-len-eq80.false p)
      | inr p ↦ is_one _ 0x90 p
    ]

pub returns-else-bytes-len-eq80-clause-csi : goal.returns-else-bytes-len-eq80-clause-csi
returns-else-bytes-len-eq80-clause-csi c = λ o body i e.
    elim (last_byte c.args.bytes.now c.opener_len-len.result kind.Csi o body e
    (c.opener_len-len.ensures.len kind.Csi o body i e)) [
      | inl p ↦ is_no _ 0x90 (λ z. omega (arith, p, z))
      | inr p ↦ is_no _ 0x90 (λ z. omega (arith, p, z))
    ]

pub returns-else-bytes-len-eq80-clause-escape : goal.returns-else-bytes-len-eq80-clause-escape
returns-else-bytes-len-eq80-clause-escape c = λ x a e.
    is_no _ 0x90 (λ z.
    no_dcs c.args.bytes.now x (c.opener_len-len.result - 1) a e
    (omega (arith, c.opener_len-len.ensures.few)) (inr z))
