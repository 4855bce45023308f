use Rattle.std.proofs.Common.{◌↔◌, drop}
use Rattle.esc_sixel.specs.Writable.{AreWritableData}
use Rattle.esc_calls.proofs.sixel_writable.are_writable.Given as goal

abbrev pub invariant-loop-item : goal.invariant-loop-item
invariant-loop-item l = AreWritableData l.items ↔ AreWritableData (drop l.item-index l.items)
