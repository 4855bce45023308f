use Rattle.std.proofs.Common.{[], ◌++◌, ap, sym, ◌∙◌}
use Rattle.esc_decode.proofs.Masks.{begun_append, masked_append}
use Rattle.esc_decode.specs.Masks.{begun_after, masked_bytes, masked_after}
use Rattle.esc_decode.proofs.mask.Mask.take_all.Goals as goal

pub returns-clause-fed : goal.returns-clause-fed
returns-clause-fed c = λ s h.
    let bs = c.args.bytes.now in
    c.mask_all-self.ensures.begun ∙ ap (λ f. begun_after f bs) h ∙ sym (begun_append [] s bs)

pub returns-clause-masked : goal.returns-clause-masked
returns-clause-masked c = λ s h.
    let bs = c.args.bytes.now in
    masked_append [] s bs ∙ ap (λ f. masked_bytes s ++ masked_after f bs) (sym h)
    ∙ ap (λ t. masked_bytes s ++ t) (sym c.mask_all-self.ensures.masked)
