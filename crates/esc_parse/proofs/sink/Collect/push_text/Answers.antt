use Rattle.std.proofs.Common.{arith}
use Rattle.esc_actions.specs.declared.action.Action.TheVariants as action
use Rattle.esc_parse.specs.Collected.{Gathers}
use Rattle.esc_parse.proofs.Runs.RunsOfText.{takes_next}
use Rattle.esc_parse.proofs.sink.Collect.push_text.Goals as goal

pub loop-b-preserved : goal.loop-b-preserved
loop-b-preserved g c =
    let at = c.loop-b in
    let now = c.args.text.now in record {
      room = omega
          (arith, at.invariant.room, c.push_reserved.ensures.len, c.push_reserved.ensures.capacity);
      given =
          takes_next action.Print Gathers Gathers now at.b-index
          (omega arith) c.args.self.now _ _ at.invariant.given
          c.push_reserved.ensures.items;
    }
