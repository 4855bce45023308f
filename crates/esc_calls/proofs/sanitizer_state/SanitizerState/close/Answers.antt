use Rattle.std.proofs.Common.{◌++◌, ap, subst, sym, ◌∙◌}
use Rattle.std.proofs.lemmas.Result.{on_ok_weaker}
use Rattle.esc_sanitize.specs.Sanitized.{HasConsumed, added_by}
use Rattle.esc_calls.proofs.Sanitizing.{closes}
use Rattle.esc_calls.specs.SanitizerStates.{going_bytes}
use Rattle.esc_calls.specs.Sanitizers.{admitter, chain}
use Rattle.esc_calls.proofs.sanitizer_state.SanitizerState.close.Goals as goal

pub returns-clause-ended : goal.returns-clause-ended
returns-clause-ended c = λ o s h.
    let z = c.args.self.now in
    let r = going_bytes o.order s in
    let last = c.finish.new.self in
    let new = c.keep_added-2.new.self in
    on_ok_weaker c.keep_added-2.result
    (λ kept. closes o s c.deref.result.now z new c.feed.new.self c.keep_added.new.self.sanitizer
    last h c.deref.ensures.value (c.in-Ok.ensures.given r h.fed) c.in-Ok.ensures.after.1
    c.in_ok-keep_added.ensures.same.0 (c.in-Ok-finish.ensures.ended (r ++ c.deref.result.now))
    c.in-Ok-finish.ensures.after.2 c.keep_added-2.ensures.same.0 c.keep_added-2.ensures.same.1
    (kept ∙ ap (λ t. t ++ added_by chain last) (c.in_ok-keep_added.ensures.kept
    ∙ ap (λ t. t ++ added_by chain c.feed.new.self) c.clear.ensures.bytes)))
    c.keep_added-2.ensures.kept

pub returns-in_default-clause-refused : goal.returns-in_default-clause-refused
returns-in_default-clause-refused c = λ o s h.
    (c.in_default.ensures.refused (going_bytes o.order s) h.fed).1

pub returns-in_default-finish-clause-refused : goal.returns-in_default-finish-clause-refused
returns-in_default-finish-clause-refused c = λ o s h.
    let all = going_bytes o.order s ++ c.deref.result.now in
    let fed = (c.in-Ok.ensures.given (going_bytes o.order s) h.fed).0 in
    (c.in_default-finish.ensures.refused all
    (subst (λ z. HasConsumed chain admitter all z) (sym c.in_ok-keep_added.ensures.same.0) fed)).1
