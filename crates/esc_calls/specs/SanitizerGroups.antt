-- The actions that pass, by the options of a sanitizer.
use Rattle.std.specs.Prelude.{ℕ, ◌≡◌, ◌/◌, ◌%◌, ◌^◌, ◌==◌, if◌then◌else◌, Bool, true, false, List, Option, Some, None, codes}
use Rattle.std.specs.Option.{option_map}
use Rattle.esc_filter.specs.Groups.{groups_of, has, place, with_group}
use Rattle.esc_filter.specs.declared.group.Group.{Group}
use Rattle.esc_filter.specs.declared.group.Group.TheVariants as group
use Rattle.esc_filter.specs.declared.groups.Groups.{Groups}
use Rattle.esc_filter.specs.declared.policy.Policy.{Policy}
use Rattle.esc_calls.specs.declared.sanitizer_options.SanitizerOptions.{SanitizerOptions}

-- whether the bit of this place is set
abbrev pub has_bit : ℕ → ℕ → Bool
has_bit at bits = (bits / 2 ^ at) % 2 == 1

-- h are the groups g with those whose bits are set, or without them; a group's bit has its place
pub record AreWith (bits : ℕ) (passes : Bool) (g h : Groups) : Type 0 where
  pub groups : (c : Group) → has h c ≡ (if has_bit (place c) bits then passes else has g c)
  pub schemes : h.schemes ≡ g.schemes

-- if rows may be written again, with the actions that change the screen, and backspaces
abbrev pub groups_with_moves : ℕ → Groups → Groups
groups_with_moves rows g = if rows == 0 then g
    else with_group (with_group (with_group (with_group (with_group (with_group g
    group.Controls true) group.Cursor true) group.Erase true) group.Scroll true)
    group.Modes true) group.Charsets true

-- the schemes of the links that pass, of http, https and mailto, each with its bit; all schemes if
-- there are none
abbrev pub links_numbered : ℕ → Option (Option (List ℕ))
links_numbered n =
    if n == 0 then Some None
    else if n == 1 then Some (Some (codes "http"))
    else if n == 2 then Some (Some (codes "https"))
    else if n == 3 then Some (Some (codes "http,https"))
    else if n == 4 then Some (Some (codes "mailto"))
    else if n == 5 then Some (Some (codes "http,mailto"))
    else if n == 6 then Some (Some (codes "https,mailto"))
    else if n == 7 then Some (Some (codes "http,https,mailto"))
    else None

-- h are the groups of the policy p and those that are allowed, but those that are denied, and the
-- groups that change the screen if rows may be written again; only links to addresses of the
-- schemes pass
pub record AreSaid (r : SanitizerOptions) (p : Policy) (h : Groups) : Type 0 where
  pub more : Groups
  pub allowed : AreWith r.allowed true (groups_of p) more
  pub fewer : Groups
  pub denied : AreWith r.denied false more fewer
  pub groups : h.allowed ≡ (groups_with_moves r.rows fewer).allowed
  pub links : links_numbered r.links ≡ Some (option_map (λ s. s.now) h.schemes)
