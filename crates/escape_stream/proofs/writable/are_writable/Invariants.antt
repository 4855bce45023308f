use Rattle.std.proofs.Common.{◌↔◌, drop, map}
use Rattle.escape_stream.proofs.writable.are_writable.Given as goal
use Rattle.esc_actions.specs.Values.{value_of}
use Rattle.esc_actions.specs.Writable.{AreWritable, AreWritableFrom}

abbrev pub invariant-loop-action : goal.invariant-loop-action
invariant-loop-action g l =
    AreWritable (map value_of l.actions) ↔ AreWritableFrom l.within
    (map value_of (drop l.action-index l.actions))
