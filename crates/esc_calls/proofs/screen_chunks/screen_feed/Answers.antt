use Rattle.std.proofs.Common.{Global, Some, ap, sym, ◌∙◌}
use Rattle.esc_terminal.specs.Fed.{HasConsumed}
use Rattle.esc_calls.proofs.Keeping.{kept_has}
use Rattle.esc_calls.specs.Kept.{screen_in}
use Rattle.esc_calls.proofs.screen_chunks.screen_feed.Goals as goal

pub returns-in-Ok-clause-taken : goal.returns-in-Ok-clause-taken
returns-in-Ok-clause-taken c = λ z s h done.
    let is = ap screen_in
    (c.in-Some.ensures.some ∙ ap Some (sym c.deref_mut.ensures.value ∙ c.in-Screen.is)) in
    let f = kept_has screen_in (λ x. HasConsumed {A = Global} z s x.terminal)
    c.args.screen.now c.in-Screen.state is h in
    (c.feed.new.self, ap screen_in c.of.ensures.begun, c.in-Ok.ensures.given z s f)
