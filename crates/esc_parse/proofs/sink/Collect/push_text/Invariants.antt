use Rattle.std.proofs.Common.{◌≤◌, ◌+◌, length, map, take, vec_capacity, vec_len}
use Rattle.std.specs.List.{FoldsTo}
use Rattle.esc_actions.specs.declared.action.Action.TheVariants as action
use Rattle.esc_parse.specs.Collected.{Gathers}
use Rattle.esc_parse.proofs.sink.Collect.push_text.Given as goal

abbrev pub invariant-loop-b : goal.invariant-loop-b
invariant-loop-b g l = record {
  room : vec_len l.self.actions + length l.text ≤ vec_capacity l.self.actions + l.b-index;
  given : FoldsTo Gathers l.initial.self (map action.Print (take l.b-index l.text)) l.self;
}
