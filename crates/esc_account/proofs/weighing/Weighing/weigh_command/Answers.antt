use Rattle.std.proofs.Common.{true, ◌&&◌, refl, ap, ◌∙◌}
use Rattle.esc_account.proofs.Fates.CommandsAreWeighed.{command_weighed}
use Rattle.esc_account.proofs.weighing.Weighing.weigh_command.Goals as goal

pub returns : goal.returns
returns g c = λ command a.
    let p = c.args.self.now in
    let w = p.weighed in record {
      judge = refl;
      before = refl;
      kind = refl;
      weighed =
          ap (λ o. record {
            has_own = true;
            writes_all = w.writes_all && c.args.passes;
            shows_some = w.shows_some;
            last = o;
          }) c.last_after.ensures
          ∙ command_weighed p.judge.now.by_lines p.judge.now.guard
          (g.P.Admit.admits p.judge.now.policy) p.before p.kind command w c.args.passes a;
    }
