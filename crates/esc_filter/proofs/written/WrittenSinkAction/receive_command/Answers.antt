use Rattle.std.proofs.Common.{◌≡◌, inl, sym, ap, rules, true, false, Ok, Err}
use Rattle.std.proofs.lemmas.Bool.{true≢false}
use Rattle.std.specs.declared.alloc.AllocError.{AllocError}
use Rattle.std.proofs.lemmas.Result.{on_err_weaker}
use Rattle.esc_values.specs.Clear.{parts_of}
use Rattle.esc_parse.proofs.Lists.StepsOverLists.{if_ok_more}
use Rattle.esc_filter.proofs.GivingBack.ChangesAreNoted.{command_denied, command_noted}
use Rattle.esc_filter.proofs.Renditions.SequencesFromParameters.{link_denied, link_taken}
use Rattle.esc_filter.proofs.written.WrittenSinkAction.receive_command.Goals as goal

pub receive_command-requires : goal.receive_command-requires
receive_command-requires g c = inl tt

pub returns-in-Ok-true-clause-given : goal.returns-in-Ok-true-clause-given
returns-in-Ok-true-clause-given g c = record {
  taken =
      let e : c.in-Ok-true.field-0 ≡ true = search rules in
      command_noted {E = AllocError} (Ok true) (parts_of c.args.text.now) c.args.self.now
      c.args.self.now.left c.receive_command.new.self
      (sym (c.leaves_all.ensures c.if-leaves_all.true c.args.self.now.left))
      (λ _. c.in-Ok-true.ensures.given.taken e);
  left = λ e. absurd (true≢false e);
  refused = tt;
}

pub returns-in-Ok-false-clause-given : goal.returns-in-Ok-false-clause-given
returns-in-Ok-false-clause-given g c = record {
  taken = λ e. absurd (true≢false (sym e));
  left = λ _.
      let e : c.in-Ok-false.field-0 ≡ false = search rules in
      ap (λ s. record c.args.self.now { spell = s }) (c.in-Ok-false.ensures.given.left e);
  refused = tt;
}

pub returns-in-Err-clause-given : goal.returns-in-Err-clause-given
returns-in-Err-clause-given g c = record {
  taken = tt;
  left = tt;
  refused =
      command_denied (Err c.in-Err.error) (parts_of c.args.text.now) c.args.self.now _
      c.receive_command.new.self c.in-Err.ensures.given.refused;
}

pub returns-clause-given : goal.returns-clause-given
returns-clause-given g c = record {
  taken =
      if_ok_more _ _ c.append_link.result
      (λ b k i. link_taken c.args.self.now c.append_link.new.self (parts_of c.args.text.now) (k i))
      c.append_link.ensures.taken;
  left = search rules;
  refused =
      on_err_weaker c.append_link.result
      (λ r. link_denied c.args.self.now c.append_link.new.self (parts_of c.args.text.now) r)
      c.append_link.ensures.refused;
}
