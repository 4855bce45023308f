use Rattle.std.proofs.Common.{arith, ◌++◌, take}
use Rattle.std.proofs.lemmas.Grind.{common_steps}
use Rattle.std.proofs.KnownBytes.{Appends-trans}
use Rattle.esc_parse.proofs.Lists.PrefixOfRest.{prefix_more}
use Rattle.esc_normal.proofs.watched.Watched.write_whole.Goals as goal

pub loop-rest-preserved : goal.loop-rest-preserved
loop-rest-preserved g c =
    let before = c.loop-rest.invariant.prefix in
    record {
      whole = grind (arith, common_steps);
      prefix = (
        before.0 ++ take c.in-Ok.n c.loop-rest.rest.now,
        prefix_more c.args.bytes.now before.0 c.loop-rest.rest.now c.in-Ok.n before.1,
        Appends-trans _ _ _ _ _ before.2 c.in-Ok.ensures.bytes,
      );
    }
