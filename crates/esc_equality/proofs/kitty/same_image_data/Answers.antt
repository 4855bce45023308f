use denote.Param.{param}
use Rattle.std.proofs.Common.{sym, ◌∙◌}
use Rattle.esc_equality.proofs.KittySame.{contents}
use Rattle.esc_equality.proofs.kitty.same_image_data.Goals as goal

pub returns : goal.returns
returns g c =
    let same = contents (param 0 g.row.A) g.A.Allocator g.A.Allocator-dict g.A.Destruct-dict
    c.args.a.now c.args.b.now in
    (λ h. same.0 (sym c.eq.ensures ∙ h), λ e. c.eq.ensures ∙ same.1 e)
