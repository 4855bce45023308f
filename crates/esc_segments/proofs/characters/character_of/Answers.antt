use Rattle.std.proofs.Common.{ℕ, ◌≡◌, ◌≤◌, List, [], ◌∷◌, true, length, arith}
use Rattle.esc_frame.specs.Sequences.{is_sequence}
use Rattle.esc_segments.proofs.characters.character_of.Goals as goal

sequence_len : (x : List ℕ) → is_sequence x ≡ true → (2 ≤ length x) × (length x ≤ 4)
unfolding is_sequence
sequence_len [] h = absurd cc
sequence_len (a ∷ []) h = absurd cc
sequence_len (a ∷ b ∷ []) h = (omega arith, omega arith)
sequence_len (a ∷ b ∷ c ∷ []) h = (omega arith, omega arith)
sequence_len (a ∷ b ∷ c ∷ d ∷ []) h = (omega arith, omega arith)
sequence_len (a ∷ b ∷ c ∷ d ∷ e ∷ x) h = absurd cc

pub returns-then-bytes-eq1-clause-wide : goal.returns-then-bytes-eq1-clause-wide
returns-then-bytes-eq1-clause-wide c = λ h. let l = sequence_len c.args.bytes.now h in
    absurd (omega (arith, l.0))

pub returns-else-bytes-eq4-clause-wide : goal.returns-else-bytes-eq4-clause-wide
returns-else-bytes-eq4-clause-wide c = λ h. let l = sequence_len c.args.bytes.now h in
    absurd (omega (arith, l.0, l.1))
