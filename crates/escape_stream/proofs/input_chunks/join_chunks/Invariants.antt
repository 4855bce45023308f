use Rattle.std.proofs.Common.{◌≡◌, take, map, flat_map}
use Rattle.escape_stream.proofs.input_chunks.join_chunks.Given as goal
use Rattle.esc_parse.specs.Fed.{ParserHasConsumed}
use Rattle.esc_actions.specs.Meaning.{meaning}
use Rattle.esc_actions.specs.Values.{value_of}

abbrev pub invariant-loop-input_chunk : goal.invariant-loop-input_chunk
invariant-loop-input_chunk g l = record {
  fed : ParserHasConsumed (flat_map (λ p. p.now) (take l.input_chunk-index l.input_chunks))
      l.parser;
  so_far : map value_of l.actions.items
      ≡ meaning (flat_map (λ p. p.now) (take l.input_chunk-index l.input_chunks));
}
