-- The values that pass by the options that name groups.
use Rattle.std.specs.Prelude.{ℕ, ◌≡◌, ◌-◌, ◌/◌, ◌%◌, ◌^◌, ◌==◌, ◌&&◌, ◌||◌, nat_lt, not, Bool, true, if◌then◌else◌, List, Option, Some, None}
use Rattle.esc_actions.specs.Values.{Value}
use Rattle.esc_filter.specs.Groups.{IsWithSchemes, admits_groups, groups_of, has, place, with_group}
use Rattle.esc_filter.specs.Rules.{admits}
use Rattle.esc_filter.specs.declared.group.Group.{Group}
use Rattle.esc_filter.specs.declared.group.Group.TheVariants as group
use Rattle.esc_filter.specs.declared.groups.Groups.{Groups}
use Rattle.esc_filter.specs.declared.policy.Policy.{Policy}
use Rattle.esc_filter.specs.declared.policy.Policy.TheVariants as policy
use Rattle.escfilter.specs.declared.named_groups.Choice.{Choice}

-- the groups that pass: those that are chosen, or those of the policy
abbrev pub groups_by : Option Groups → Policy → Groups
groups_by None p = groups_of p
groups_by (Some g) p = g

abbrev pub groups_in : Choice → Groups
groups_in c = groups_by c.groups c.policy

-- the values of the chosen groups, or, if none were named, those that the policy admits
abbrev pub admits_by : {A : Type 0} → Option Groups → Policy → Value A → Bool
admits_by None p v = admits p v
admits_by (Some g) p v = admits_groups g v

abbrev pub admits_choice : {A : Type 0} → Choice → Value A → Bool
admits_choice c v = admits_by c.groups c.policy v

-- the groups of the choice are some of the policy's
abbrev pub IsWithin : Policy → Choice → Type 0
IsWithin p c = (g : Group) → has (groups_in c) g ≡ true → has (groups_of p) g ≡ true

-- whether the word of this number, from 0, is among those whose bits are set
abbrev pub has_word : ℕ → ℕ → Bool
has_word at words = (words / 2 ^ at) % 2 == 1

-- whether that of a group is: the groups but the characters, which always pass, have the words of
-- --deny, in their order
abbrev pub is_named : Group → ℕ → Bool
is_named c words = nat_lt 0 (place c) && has_word (place c - 1) words

-- the policy that admits most of those that are named by the first five words of --allow: text,
-- color and colour, screen, all
abbrev pub policy_named : ℕ → Option Policy
policy_named words =
    if has_word 4 words then Some policy.All
    else if has_word 3 words then Some policy.Screen
    else if has_word 2 words || has_word 1 words then Some policy.Color
    else if has_word 0 words then Some policy.Text
    else None

-- the values that a policy admits
abbrev pub begun : Policy → Choice
begun p = record { policy = p; groups = None }

-- the choice that a policy begins, where one is named
abbrev pub begun_by : Option Policy → Choice → Choice
begun_by None c = c
begun_by (Some p) c = begun p

-- d is the choice c with the named groups, or without them, and with the same links
pub record IsChanged (words : ℕ) (passes : Bool) (c d : Choice) : Type 0 where
  pub groups : (g : Group) → has (groups_in d) g
      ≡ (if is_named g words then passes else has (groups_in c) g)
  pub schemes : (groups_in d).schemes ≡ (groups_in c).schemes
  pub policy : d.policy ≡ c.policy

-- the word of hidden, where these groups have it without sgr, whose renditions end it
abbrev pub left_hidden : Groups → ℕ
left_hidden g = if has g group.Hidden && not (has g group.Sgr) then 4 else 0

-- d is the choice c, but for links, which have to have one of these schemes
abbrev pub IsLinked : List ℕ → Choice → Choice → Type 0
IsLinked s c d = IsWithSchemes (groups_in c) s (groups_in d) × (d.policy ≡ c.policy)

-- these groups, and those that change the screen: backspaces are in Controls
abbrev pub moving_groups : Groups → Groups
moving_groups g = with_group (with_group (with_group (with_group (with_group (with_group g
    group.Controls true) group.Cursor true) group.Erase true) group.Scroll true) group.Modes true)
    group.Charsets true

-- d is the choice c with those
abbrev pub IsMoving : Choice → Choice → Type 0
IsMoving c d = (groups_in d ≡ moving_groups (groups_in c)) × (d.policy ≡ c.policy)
