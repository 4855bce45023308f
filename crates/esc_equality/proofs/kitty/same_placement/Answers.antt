use Rattle.std.proofs.Common.{sym, ◌∙◌}
use Rattle.esc_equality.proofs.KittySame.{placements}
use Rattle.esc_equality.proofs.kitty.same_placement.Goals as goal

pub returns : goal.returns
returns c =
    let same = placements c.args.a.now c.args.b.now in
    (λ h. same.0 (sym c.eq.ensures ∙ h), λ e. c.eq.ensures ∙ same.1 e)
