use Rattle.std.proofs.Common.{refl, sym, ◌∙◌}
use Rattle.esc_filter.proofs.Renditions.RenditionsGoOn.{at_none}
use Rattle.esc_filter.proofs.resuming.ResumingFilter.new.Goals as goal

pub returns-clause-fed : goal.returns-clause-fed
returns-clause-fed g c = record {
  fed = c.with_guard.ensures.fed;
  marks = record {
    resumes = refl;
    begun = refl;
    opening =
        λ _. c.new.ensures.bytes
        ∙ sym (at_none c.args.guard c.args.limit (g.P.Admit.admits c.args.policy) c.args.resumes);
  };
}
