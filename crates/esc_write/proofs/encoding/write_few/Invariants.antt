use Rattle.std.proofs.Common.{◌≡◌, ◌≤◌, ◌+◌, ◌++◌, length, map, true}
use Rattle.std.specs.List.{list_all}
use Rattle.esc_actions.specs.Texts.{has_text, texts_after}
use Rattle.esc_actions.specs.Values.{value_of}
use Rattle.esc_write.proofs.encoding.write_few.Given as goal

abbrev pub invariant-few : goal.invariant-few
invariant-few g l = record {
  less : length l.rest + l._i ≤ length l.actions;
  text : l.text ++ texts_after l.follows (map value_of l.rest) ≡ l.initial.text
      ++ texts_after l.follows_string (map value_of l.actions);
  have : list_all (λ a. has_text (value_of a)) l.actions ≡ true
      → list_all (λ a. has_text (value_of a)) l.rest ≡ true;
}
