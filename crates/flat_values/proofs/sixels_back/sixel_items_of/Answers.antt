use Rattle.flat_values.proofs.SixelsFound.{one_of}
use Rattle.flat_values.proofs.sixels_back.sixel_items_of.Goals as goal

pub returns-in-None-clause-none : goal.returns-in-None-clause-none
returns-in-None-clause-none c = λ none ds has.
    let one = one_of ds c.args.rows.now c.loop-row.row-index _ has c.loop-row-test.true in
    c.item.ensures.none c.in-None.is one.0 one.1
