use Rattle.std.proofs.Common.{◌++◌, ap, sym, ◌∙◌}
use Rattle.std.proofs.lemmas.Result.{on_ok_weaker}
use Rattle.esc_calls.proofs.Sanitizing.{decoded_end, finishes, undecoded_by}
use Rattle.esc_calls.specs.SanitizerStates.{going_bytes}
use Rattle.esc_calls.specs.declared.sanitizer_state.SanitizerState.{SanitizerState}
use Rattle.esc_calls.proofs.sanitizer_state.SanitizerState.finish.Goals as goal

pub returns-in_default-clause-ended : goal.returns-in_default-clause-ended
returns-in_default-clause-ended c = λ o s h.
    let z = c.args.self.now in
    let new : SanitizerState = record {
      sanitizer = c.finish.new.self;
      decoder = z.decoder;
      decoded = z.decoded;
      text = z.text;
      is_closing = z.is_closing;
    } in
    on_ok_weaker c.finish.result
    (finishes o s z new h (undecoded_by o.order s z.decoder h.decoder c.in_default.not-Some)
    h.goes_on c.finish.ensures.after.2)
    (c.finish.ensures.ended (going_bytes o.order s) h.fed)

pub returns-clause-ended : goal.returns-clause-ended
returns-clause-ended c = λ o s h.
    c.in-Ok-close.ensures.ended o s (record {
      fed = h.fed;
      options = h.options;
      rest = decoded_end o.order s c.end.new.text.items c.in-Some.decoder
          (sym h.decoder ∙ c.in-Some.is)
          (λ j r is. let k = c.in-Ok.ensures.decoded j r is in
          (k.0, k.1 ∙ ap (λ y. y ++ k.0) c.clear.ensures.items, k.2));
    })

pub returns-in_default-clause-memory : goal.returns-in_default-clause-memory
returns-in_default-clause-memory c = λ o s h.
    c.finish.ensures.refused (going_bytes o.order s) h.fed
