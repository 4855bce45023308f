use Rattle.std.proofs.Common.{Global, ◌≡◌, false, Some, None, subst, sym, ◌∙◌}
use Rattle.esc_filter.specs.Passing.{IsFiltered}
use Rattle.esc_filter.specs.Rules.{admits}
use Rattle.esc_calls.proofs.Known.{if_known}
use Rattle.esc_calls.proofs.filter.filter.Goals as goal
use Rattle.esc_calls.specs.Filtered.{open_text}
use Rattle.esc_calls.specs.Policies.{policy_numbered}

pub returns-in-Some-clause-written : goal.returns-in-Some-clause-written
returns-in-Some-clause-written c = record {
  written = λ done.
      let limit = c.args.limit in
      let bs = c.args.bytes.now in
      let it = c.filter_by.ensures.written done in
      let filtered = subst (IsFiltered {A = Global} false (Some limit) (admits c.in-Some.known) bs)
      (sym it.1)
      (c.passed_reads_back.ensures.goes_on (Some limit) (admits c.in-Some.known) bs) in (
        it.0,
        if_known (λ p. (it.0 ≡ open_text limit p bs)
            × IsFiltered {A = Global} false (Some limit) (admits p) bs it.0)
            (policy_numbered c.args.policy) c.in-Some.known
            (sym c.policy_of.ensures ∙ c.in-Some.is) (it.1, filtered),
        it.2,
      );
  refused = λ differs.
      let it = c.filter_by.ensures.refused differs in
      ((λ other. absurd (other it.0.0), λ memory. it.0.1), it.1, it.2);
}

pub returns-in-Some-clause-unknown : goal.returns-in-Some-clause-unknown
returns-in-Some-clause-unknown c = (
  λ e.
      let memory = (c.filter_by.ensures.refused (λ done. absurd cc)).0.0 in
      absurd cc,
  λ e. let both : None ≡ Some c.in-Some.known = sym e ∙ sym c.policy_of.ensures ∙ c.in-Some.is in
      absurd cc,
)
