use Rattle.std.proofs.Common.{sym, ◌∙◌, nat_eq, ◌&&◌, List, ℕ}
use Rattle.std.specs.Cmp.Derive.Mapped.{pointwise-map}
use Rattle.std.specs.Cmp.Lexicographic.{pointwise}
use Rattle.esc_links.proofs.ParamsSeen.{shown}
use Rattle.esc_links.proofs.params.ParamsPartialEq.eq.Goals as goal

pub returns : goal.returns
returns g c =
    rw (← c.self.view_is, ← c.other.view_is)
    (c.eq.ensures ∙ sym (pointwise-map (shown {A = g.row.A.Denot})
    (λ (p q : List ℕ × List ℕ). pointwise nat_eq p.0 q.0 && pointwise nat_eq p.1 q.1)
    c.self.inside.tree.entries c.other.inside.tree.entries))
