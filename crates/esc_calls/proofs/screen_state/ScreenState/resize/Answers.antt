use Rattle.std.proofs.Common.{OnOk, Result}
use Rattle.std.proofs.lemmas.Result.{on_ok_weaker}
use Rattle.esc_calls.proofs.screen_state.ScreenState.resize.Goals as goal

first_half : {T E : Type 0} (P Q : Type 0) (r : Result T E) → OnOk r (P × Q) → OnOk r P
first_half P Q r h = on_ok_weaker {P = P × Q} r (λ k. k.0) h

pub returns-clause-resized : goal.returns-clause-resized
returns-clause-resized c = λ z x s h.
    first_half _ _ _ (c.resize_into-result.ensures.resized z x s h)
