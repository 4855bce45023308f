use Rattle.std.proofs.Common.{[], subst, sym}
use Rattle.esc_sanitize.specs.Rows.{HasLeft}
use Rattle.esc_sanitize.proofs.staged.Staged.new.Goals as goal

pub returns-clause-begins : goal.returns-clause-begins
returns-clause-begins g c = λ h.
    let o = c.args.hearing.options in (
      h,
      subst (λ u. HasLeft o.window u c.new-left.result) (sym h.empty)
          (subst (λ q. HasLeft q.window [] c.new-left.result) c.options.ensures c.new-left.ensures),
    )
