use Rattle.std.proofs.Common.{◌≡◌, ◌++◌, length, map}
use Rattle.std.specs.List.{FoldsTo}
use Rattle.std.specs.Vec.Iter.{into_iter_items, into_iter_len}
use Rattle.esc_sequences.specs.Csis.{csi_value}
use Rattle.esc_parse.specs.Given.{At}
use Rattle.esc_actions.specs.Values.{csi, value_of}
use Rattle.esc_parse.proofs.performer.give_all.Given as goal

abbrev pub invariant-loop-value : goal.invariant-loop-value
invariant-loop-value g l = record {
  ready : g.S.Sink.is_ready l.fn.sink → g.S.Sink.is_ready l.sink;
  parts : l.yielded ++ into_iter_items l.value-iterator ≡ l.fn.values.items;
  many : into_iter_len l.value-iterator ≡ length (into_iter_items l.value-iterator);
  taken : FoldsTo (At value_of g.S.Sink.takes) l.fn.sink (map csi (map csi_value l.yielded)) l.sink;
}
