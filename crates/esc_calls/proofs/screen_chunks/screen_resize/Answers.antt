use Rattle.std.proofs.Common.{Global, Some, ap, subst, sym, ◌∙◌}
use Rattle.std.specs.Prelude.{max}
use Rattle.esc_terminal.specs.Fed.{Stands}
use Rattle.esc_terminal.specs.Resized.{StandsWith}
use Rattle.esc_calls.proofs.Keeping.{kept_has}
use Rattle.esc_calls.specs.Kept.{screen_in}
use Rattle.esc_calls.proofs.screen_chunks.screen_resize.Goals as goal

pub returns-in-Ok-clause-resized : goal.returns-in-Ok-clause-resized
returns-in-Ok-clause-resized c = λ z x s h done.
    let is = ap screen_in
    (c.in-Some.ensures.some ∙ ap Some (sym c.deref_mut.ensures.value ∙ c.in-Screen.is)) in
    let f = kept_has screen_in (λ p. Stands {A = Global} z x s p.terminal)
    c.args.screen.now c.in-Screen.state is h in
    let t = c.resize.new.self.terminal in
    let got = subst (λ n. StandsWith {A = Global} z x s n (max c.args.rows 1) t) c.max.ensures
    (subst (λ m. StandsWith {A = Global} z x s c.max.result m t) c.max-2.ensures
    (c.in-Ok.ensures.resized z x s f)) in
    (c.resize.new.self, ap screen_in c.of.ensures.begun, got)
