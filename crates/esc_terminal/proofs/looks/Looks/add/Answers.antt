use Rattle.std.proofs.Common.{◌≡◌, [], ◌∷◌, ◌++◌, ap, length, map, subst, sym, ◌∙◌}
use Rattle.std.proofs.lemmas.List.{map-append}
use Rattle.esc_terminal.specs.Looks.{IsOnce, place_of}
use Rattle.esc_terminal.specs.Slots.{look_slot}
use Rattle.esc_terminal.proofs.Once.{once_push}
use Rattle.esc_terminal.proofs.Placed.{not_err}
use Rattle.esc_terminal.proofs.looks.Looks.add.Goals as goal

pub invariant_of-self-else-is_err : goal.invariant_of-self-else-is_err
invariant_of-self-else-is_err g c =
    let ks = c.self.inside.all.items in
    let look = c.args.look.now in
    let new : place_of look ks ≡ length ks =
    subst (λ z. place_of look z ≡ length z) (sym c.self.view_is) c.requires.new in
    let pushed : c.push-result.new.self ≡ c.self.inside.places ++ c.look_slot.result ∷ [] =
    not_err c.push-result.result (sym c.is_err.ensures.value ∙ c.if-is_err.false)
    c.push-result.ensures.ok in (
      subst IsOnce (sym c.in_ok-push.ensures.items) (once_push ks look c.self.invariant.0 new),
      pushed ∙ ap (λ s. c.self.inside.places ++ s ∷ []) c.look_slot.ensures.is
          ∙ ap (λ ss. ss ++ look_slot look ∷ []) c.self.invariant.1
          ∙ sym (map-append look_slot ks (look ∷ []))
          ∙ sym (ap (map look_slot) c.in_ok-push.ensures.items),
    )
