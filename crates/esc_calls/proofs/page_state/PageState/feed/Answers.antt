use Rattle.std.proofs.Common.{◌++◌, ap, refl, sym, ◌∙◌}
use Rattle.esc_calls.proofs.Keeping.{text_going}
use Rattle.esc_calls.specs.PageStates.{open_page}
use Rattle.esc_calls.specs.declared.page_state.PageState.{PageState}
use Rattle.esc_calls.proofs.page_state.PageState.feed.Goals as goal

pub returns-in-Ok-clause-taken : goal.returns-in-Ok-clause-taken
returns-in-Ok-clause-taken c = λ limit y s h done.
    let k = c.in-Ok.ensures.given limit y s h.0 in
    let new : PageState = record {
      writer = c.feed.new.self;
      has_ended = c.args.self.now.has_ended;
    } in
    ((k.0, h.1), k.1 ∙ ap (λ t. open_page limit y s ++ t) (sym (text_going new h.1)))

pub returns-in-Err-clause-memory : goal.returns-in-Err-clause-memory
returns-in-Err-clause-memory c = λ limit y s h differs.
    (refl, (c.in-Err.ensures.refused limit y s h.0).3)
