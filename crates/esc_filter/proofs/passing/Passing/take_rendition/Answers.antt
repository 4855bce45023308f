use Rattle.std.proofs.Common.{Ok, false, refl, subst, true, rules}
use Rattle.std.proofs.lemmas.Bool.{true≢false}
use Rattle.std.specs.declared.alloc.AllocError.{AllocError}
use Rattle.esc_sequences.specs.Csis.{csi_of}
use Rattle.esc_parse.proofs.Lists.StepsOverLists.{on_err_any}
use Rattle.esc_filter.specs.Fed.{MayTakeSequence}
use Rattle.esc_filter.proofs.Admission.PolicyIsKnown.{renditions_pass}
use Rattle.esc_filter.proofs.GivingBack.ChangesAreNoted.{plain_denied}
use Rattle.esc_filter.proofs.Renditions.SequencesFromParameters.{one_refused, one_taken, passes_taken}
use Rattle.esc_filter.proofs.passing.Passing.take_rendition.Goals as goal

pub returns-then-branch : goal.returns-then-branch
returns-then-branch g c =
    let es = c.args.params.now in
    let w = c.in_ok-append_rendition.ensures.taken c.if-branch.true in record {
      taken = passes_taken g.P.Admit.admits {E = AllocError} (Ok true) es false 0x6d
          c.args.self.now c.append_rendition.new.self refl
          (renditions_pass (g.P.Admit.admits c.args.self.now.policy.now) es c.requires w.0)
          (λ _. one_taken c.args.self.now.written c.append_rendition.new.self es w);
      left = λ e. absurd (true≢false e);
      refused = tt;
    }

pub returns-in_err-append_rendition : goal.returns-in_err-append_rendition
returns-in_err-append_rendition g c =
    let es = c.args.params.now in
    let (plain, refused) = c.in_err-append_rendition.ensures.refused in record {
      taken = search rules;
      left = search rules;
      refused = on_err_any _ c.from_residual.result
          (one_refused g.P.Admit.admits (csi_of es false 0x6d) c.args.self.now
          c.append_rendition.new.self
          (plain_denied c.args.self.now.written c.append_rendition.new.self es 0x6d plain
          refused));
    }

pub returns : goal.returns
returns g c =
    subst (λ w. MayTakeSequence g.P.Admit.admits (record c.args.self.now { written = w })
    c.args.params.now 0x6d c.ask_sequence.result c.ask_sequence.new.self)
    (c.in_ok-append_rendition.ensures.left c.if-branch.false) c.ask_sequence.ensures
