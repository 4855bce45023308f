-- A choice of some of a policy's groups.
use Rattle.std.proofs.Common.{◌≡◌, true, Option, None, Some, ◌∙◌}
use Rattle.esc_actions.specs.Values.{Value}
use Rattle.esc_filter.specs.Groups.{admits_groups, groups_of, has}
use Rattle.esc_filter.specs.Tokens.{AdmitsAtMost}
use Rattle.esc_filter.specs.Rules.{admits}
use Rattle.esc_filter.specs.declared.group.Group.{Group}
use Rattle.esc_filter.specs.declared.groups.Groups.{Groups}
use Rattle.esc_filter.specs.declared.policy.Policy.{Policy}
use Rattle.escfilter.specs.Choices.{IsWithin, admits_by, admits_choice, groups_by}
use Rattle.escfilter.specs.declared.named_groups.Choice.{Choice}

-- it admits no more than the policy does
pub choice_within : (A : Type 0)
    → ((p : Policy) (g : Groups) → ((c : Group) → has g c ≡ true → has (groups_of p) c ≡ true)
    → AdmitsAtMost {A = A} p (admits_groups g))
    → ((p : Policy) (v : Value A) → admits_groups (groups_of p) v ≡ admits p v)
    → (p : Policy) (c : Choice) → IsWithin p c → AdmitsAtMost {A = A} p (admits_choice c)
choice_within A some same p c within = by c.groups c.policy within
  where
    by : (o : Option Groups) (q : Policy)
        → ((g : Group) → has (groups_by o q) g ≡ true → has (groups_of p) g ≡ true)
        → AdmitsAtMost {A = A} p (admits_by o q)
    by None q h v e = some p (groups_of q) h v (same q v ∙ e)
    by (Some g) q h v e = some p g h v e
