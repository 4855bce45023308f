use Rattle.std.proofs.Common.{refl}
use Rattle.xtgettcap.specs.Names.{hex_text}
use Rattle.xtgettcap.proofs.Turns.{written_more}
use Rattle.xtgettcap.proofs.query.write_more.Goals as goal

pub loop-name-preserved : goal.loop-name-preserved
loop-name-preserved g c = λ plain.
    let so_far = c.loop-name.invariant plain in
    written_more g.W.Write.write_str_gives hex_text c.args.rest.now c.loop-name.name-index
    c.name-item.result c.name-item.result _ _ _
    c.loop-name-test.true c.name-item.is so_far (c.in_ok-write.ensures.writes so_far.plain refl)
