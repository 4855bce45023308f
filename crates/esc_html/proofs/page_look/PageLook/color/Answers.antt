use Rattle.esc_html.proofs.page_look.PageLook.color.Goals as goal

pub invariant_of-self : goal.invariant_of-self
invariant_of-self c = record { is_kind = c.colored-self.ensures _ _ c.args.self.now.is_kind }
