use Rattle.std.proofs.Common.{◌-◌, ◌≤◌, length, take}
use Rattle.esc_filter.specs.Openings.{ArePlainLines}
use Rattle.esc_filter.proofs.ByLine.PlainLinesReadBack.{HasRead}
use Rattle.esc_filter.proofs.plain_lines.plain_length.Given as goal

abbrev pub invariant-loop-at : goal.invariant-loop-at
invariant-loop-at g l = record {
  within : l.at ≤ length l.bytes;
  last : l.end ≤ l.at;
  read : HasRead g.row.A.Denot l.renditions l.is_on (take l.at l.bytes);
  lines : ArePlainLines g.row.A.Denot l.renditions (take l.end l.bytes);
}

abbrev pub decreases-loop-at : goal.decreases-loop-at
decreases-loop-at g l = length l.bytes - l.at
