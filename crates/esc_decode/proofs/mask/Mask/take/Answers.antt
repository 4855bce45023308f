use Rattle.std.proofs.Common.{[], ◌∷◌, ◌++◌, ap, sym, ◌∙◌}
use Rattle.esc_decode.proofs.Masks.{begun_append, masked_append}
use Rattle.esc_decode.specs.Masks.{begun_after, masked_bytes, masked_after}
use Rattle.esc_decode.proofs.mask.Mask.take.Goals as goal

pub returns-clause-fed : goal.returns-clause-fed
returns-clause-fed c = λ s h.
    let b = c.args.byte in
    c.step-begun.ensures.begun ∙ ap (λ f. begun_after f (b ∷ [])) h
    ∙ sym (begun_append [] s (b ∷ []))

pub returns-clause-masked : goal.returns-clause-masked
returns-clause-masked c = λ s h.
    let b = c.args.byte in
    masked_append [] s (b ∷ []) ∙ ap (λ f. masked_bytes s ++ masked_after f (b ∷ [])) (sym h)
    ∙ ap (λ a. masked_bytes s ++ a ∷ []) (sym c.step-begun.ensures.becomes)
