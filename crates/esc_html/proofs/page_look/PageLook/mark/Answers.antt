use Rattle.std.proofs.Common.{◌≡◌, true, sym, subst}
use Rattle.esc_html.specs.Plain.{is_of_kind}
use Rattle.esc_html.proofs.page_look.PageLook.mark.Goals as goal

pub invariant_of-self : goal.invariant_of-self
invariant_of-self c = record {
  is_kind =
      subst (λ l. is_of_kind c.marked-self.result l ≡ true) (sym c.put_on.ensures)
      (c.marked-self.ensures _ c.args.self.now.is_kind);
}
