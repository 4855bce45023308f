use Rattle.std.proofs.Common.{Ok, inl, inr, refl, subst, true, rules}
use Rattle.std.proofs.lemmas.Bool.{true≢false}
use Rattle.std.specs.declared.alloc.AllocError.{AllocError}
use Rattle.esc_values.specs.Clear.{parts_of}
use Rattle.esc_osc.specs.Reading.{meaning as command_meant}
use Rattle.esc_actions.specs.declared.action.Action.TheVariants as action
use Rattle.esc_parse.proofs.Lists.StepsOverLists.{on_err_any}
use Rattle.esc_filter.specs.Fed.{MayTakeCommand}
use Rattle.esc_filter.proofs.Renditions.SequencesFromParameters.{command_passes, link_taken}
use Rattle.esc_filter.proofs.passing.Passing.take_link.Goals as goal

pub returns-then-branch : goal.returns-then-branch
returns-then-branch g c =
    let ps = parts_of c.args.text.now in
    let w = c.in_ok-append_link.ensures.taken c.if-branch.true in record {
      taken = command_passes g.P.Admit.admits {E = AllocError} (Ok true) ps c.args.self.now
          c.append_link.new.self (c.requires (command_meant ps) w.0)
          (λ _. link_taken c.args.self.now.written c.append_link.new.self ps w);
      left = λ e. absurd (true≢false e);
      refused = tt;
    }

pub returns-in_err-append_link : goal.returns-in_err-append_link
returns-in_err-append_link g c = record {
  taken = search rules;
  left = search rules;
  refused = on_err_any _ c.from_residual.result (inr (inl (
    action.OperatingSystemCommand (command_meant (parts_of c.args.text.now)),
    refl,
    λ _. c.in_err-append_link.ensures.refused,
  )));
}

pub returns : goal.returns
returns g c =
    subst (λ w. MayTakeCommand g.P.Admit.admits (record c.args.self.now { written = w })
    (parts_of c.args.text.now) c.ask_command.result c.ask_command.new.self)
    (c.in_ok-append_link.ensures.left c.if-branch.false) c.ask_command.ensures
