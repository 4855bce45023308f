use Rattle.xtgettcap.specs.Names.{name_of}
use Rattle.xtgettcap.proofs.Turns.{meant_more, no_slice}
use Rattle.xtgettcap.proofs.builder.read_names.Goals as goal

pub loop-slice-preserved : goal.loop-slice-preserved
loop-slice-preserved g c =
    meant_more name_of (λ p. p.now) c.args.slices.now c.loop-slice.slice-index no_slice
    c.loop-slice.names.items c.push.new.vec.items c.in_ok-name.name c.loop-slice-test.true
    c.in_ok-name.ensures.ok c.in_ok-push.ensures.items c.loop-slice.invariant
