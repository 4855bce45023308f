-- The numbers of the policies.
use Rattle.std.specs.Prelude.{ℕ, ◌==◌, if◌then◌else◌, None, Option, Some}
use Rattle.esc_filter.specs.declared.policy.Policy.{Policy}
use Rattle.esc_filter.specs.declared.policy.Policy.TheVariants as policy

-- the policy of this number, if there is one
abbrev pub policy_numbered : ℕ → Option Policy
policy_numbered n =
    if n == 0 then Some policy.Text else if n == 1 then Some policy.Color else if n == 2 then Some
    policy.Screen
    else if n == 3 then Some policy.All else None
