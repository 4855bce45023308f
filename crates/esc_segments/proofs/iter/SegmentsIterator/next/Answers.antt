use Rattle.std.proofs.Common.{refl, sym, ◌∙◌}
use Rattle.esc_segments.proofs.Cutting.{none_left, nothing_is, first_of_cut}
use Rattle.esc_segments.proofs.iter.SegmentsIterator.next.Goals as goal

pub returns-then-is_empty-clause-steps : goal.returns-then-is_empty-clause-steps
returns-then-is_empty-clause-steps c = λ gs cut.
    let e = nothing_is c.args.self.now.rest.now (sym c.is_empty.ensures ∙ c.if-is_empty.true) in
    (none_left c.one_cut.ensures c.args.self.now.rest.now gs e cut, e)

pub returns-clause-steps : goal.returns-clause-steps
returns-clause-steps c = λ gs cut.
    first_of_cut c.has_cut.ensures c.one_cut.ensures c.args.self.now.rest.now c.first-found.result
    c.split_at.result.1.now
    record {
      kind = c.first-found.result.kind;
      bytes = c.split_at.result.0;
      finished = c.first-found.result.finished;
    } c.first-found.ensures.found
    c.split_at.ensures.back refl c.split_at.ensures.front refl gs cut
