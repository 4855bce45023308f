use Rattle.std.proofs.Common.{Global, [], ap, subst}
use Rattle.std.specs.Prelude.{max}
use Rattle.esc_terminal.specs.Fed.{HasConsumed, screen_size}
use Rattle.esc_calls.specs.Kept.{screen_in}
use Rattle.esc_calls.proofs.screen_chunks.screen_begin.Goals as goal

pub returns-in-Ok-clause-begun : goal.returns-in-Ok-clause-begun
returns-in-Ok-clause-begun c = λ done.
    let t = c.in-Ok.state.terminal in
    let fed = subst (λ n. HasConsumed {A = Global} (screen_size n (max c.args.rows 1)) [] t)
    c.max.ensures (subst (λ m. HasConsumed {A = Global} (screen_size c.max.result m) [] t)
    c.max-2.ensures c.in-Ok.ensures) in
    (c.in-Ok.state, ap screen_in (c.begin.ensures.begun done), fed)
