use Rattle.std.proofs.Common.{rules}
use Rattle.esc_actions.proofs.Lists.ValueAtTheEnd.{pushed_after_others, pushed_no_print}
use Rattle.esc_actions.proofs.action.Action.append_to.Goals.{in-Print+in-Ok-false, in_default}
use Rattle.esc_actions.proofs.action.Action.append_to.Goals as goal

pub returns-in-Ok-clause-appended : goal.returns-in-Ok-clause-appended
returns-in-Ok-clause-appended g c =
    let was = c.args.dest.now.items in
    let now = c.push.new.vec.items in
    elim c.match-self.branch [
      | in-Print+in-Ok-false w ↦ pushed_after_others was now c.args.self (search rules)
          (search rules)
      | in_default w ↦ pushed_no_print was now c.args.self (search rules) (search rules)
    ]
