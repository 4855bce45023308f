-- The settings of a judge.
use Rattle.std.specs.Prelude.{ℕ, ◌≡◌, Bool}
use Rattle.esc_filter.specs.declared.guard.Guard.{Guard}
use Rattle.esc_account.specs.declared.policy_judge.PolicyJudge.{PolicyJudge}

-- this policy, what is written of what deceives, and how much is kept of a segment; and
-- whether each line is a stream of its own
abbrev pub GoesBy : {P A : Type 0} → PolicyJudge P A → Bool → Guard → ℕ → P → Type 0
GoesBy j by_lines u limit policy =
    (j.by_lines ≡ by_lines) × (j.guard ≡ u) × (j.limit ≡ limit) × (j.policy ≡ policy)
