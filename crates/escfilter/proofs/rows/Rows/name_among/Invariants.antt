use Rattle.std.proofs.Common.{◌≡◌, ◌≤◌, ◌-◌, drop, length, map}
use Rattle.esc_actions.specs.Values.{value_of}
use Rattle.escfilter.specs.Rows.{first_out, judge_writes}
use Rattle.escfilter.proofs.rows.Rows.name_among.Given as goal

abbrev pub decreases-loop-at : goal.decreases-loop-at
decreases-loop-at l = length l.actions - l.at

abbrev pub invariant-loop-at : goal.invariant-loop-at
invariant-loop-at l = record {
  within : l.at ≤ length l.actions;
  rest : first_out (judge_writes l.self.judge) (map value_of l.actions)
      ≡ first_out (judge_writes l.self.judge) (map value_of (drop l.at l.actions));
}
