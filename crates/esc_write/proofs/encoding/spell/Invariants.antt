use Rattle.std.proofs.Common.{◌≡◌, ◌≤◌, ◌++◌, length, map, true}
use Rattle.std.specs.List.{list_all}
use Rattle.esc_write.proofs.encoding.spell.Given as goal
use Rattle.esc_actions.specs.Texts.{has_text, list_text, texts_after}
use Rattle.esc_actions.specs.Values.{value_of}

abbrev pub invariant-actions : goal.invariant-actions
invariant-actions g l = record {
  few : length l.rest ≤ length l.actions;
  text : l.text ++ texts_after l.follows_string (map value_of l.rest)
      ≡ list_text (map value_of l.actions);
  have : list_all (λ a. has_text (value_of a)) l.actions ≡ true
      → list_all (λ a. has_text (value_of a)) l.rest ≡ true;
}

abbrev pub decreases-actions : goal.decreases-actions
decreases-actions g l = length l.rest
