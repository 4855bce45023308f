use Rattle.std.proofs.Common.{Some, subst, sym}
use Rattle.esc_filter.proofs.Output.DeceivingCharacters.{of_nothing}
use Rattle.esc_actions.proofs.Meaning.MeaningsJoin.{meaning_nil}
use Rattle.esc_filter.proofs.filter.Filter.begun.Goals as goal
use Rattle.esc_filter.specs.Noted.{HasNoted}
use Rattle.esc_filter.specs.Passing.{in_lines}

pub returns-clause-fed : goal.returns-clause-fed
returns-clause-fed g c =
    let admits = in_lines c.args.by_lines (g.P.Admit.admits c.args.policy) in
    let nil = sym (meaning_nil (Some c.args.limit)) in (
      c.with_limit.ensures,
      subst (λ vs. HasNoted c.args.by_lines c.args.guard vs c.new.result)
          (of_nothing c.args.guard admits nil) c.new.ensures.noted,
    )
