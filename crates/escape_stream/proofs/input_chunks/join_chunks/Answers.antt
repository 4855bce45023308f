use Rattle.std.proofs.Common.{None, ◌<◌, map, take, length, flat_map, sym, ap, subst, ◌∙◌, arith}
use Rattle.std.proofs.lemmas.Result.{IfErr-at_err, IfOk-at_ok, err_from_is_err_and}
use Rattle.esc_parse.proofs.Lists.StepsOverLists.{if_err_is, input_chunks_more, stops_wanting}
use Rattle.esc_actions.proofs.Meaning.MeaningsJoin.{meaning_by, meaning_nil}
use Rattle.esc_parse.proofs.Values.EventsGiveValues.{collects}
use Rattle.escape_stream.proofs.input_chunks.join_chunks.Goals as goal
use Rattle.esc_parse.specs.Fed.{ParserHasConsumed}
use Rattle.esc_actions.specs.Meaning.{meaning}
use Rattle.esc_actions.specs.Values.{value_of}

pub loop-input_chunk-init : goal.loop-input_chunk-init
loop-input_chunk-init g c = record {
  fed = c.new-parser.ensures;
  so_far = ap (map value_of) c.new-actions.ensures.items ∙ sym (meaning_nil None);
}

pub loop-input_chunk-preserved : goal.loop-input_chunk-preserved
loop-input_chunk-preserved g c =
    let s = flat_map (λ p. p.now) (take c.loop-input_chunk.input_chunk-index
    c.args.input_chunks.now) in
    let h : c.loop-input_chunk.input_chunk-index < length c.args.input_chunks.now = omega arith in
    let w = IfOk-at_ok _ c.in_ok-result.was
    (c.parse_into-result.ensures.given None s c.loop-input_chunk.invariant.fed) in
    let more = input_chunks_more (λ p. p.now) c.args.input_chunks.now
    c.loop-input_chunk.input_chunk-index _ h in
    record {
      fed = subst (λ x. ParserHasConsumed x c.parse_into-result.new.self) more w.0;
      so_far = meaning_by None s _ _ _ c.loop-input_chunk.invariant.so_far (collects _ _ _ w.1)
          ∙ ap meaning more;
    }

pub returns-in_err-result-clause-refused : goal.returns-in_err-result-clause-refused
returns-in_err-result-clause-refused g c =
    let s = flat_map (λ p. p.now) (take c.loop-input_chunk.input_chunk-index
    c.args.input_chunks.now) in
    let fault =
    IfErr-at_err _ c.in_err-result.was
    (c.parse_into-result.ensures.refused None s c.loop-input_chunk.invariant.fed) in
    let refused = stops_wanting _ _ _ _ (λ p v q w. w.2.1) _ _ _ fault.2 in
    let p = err_from_is_err_and c.from_residual.result c.from_residual.ensures.1 in
    if_err_is _ c.from_residual.result p.0 p.1 (p.2 ∙ fault.0, refused.1)
