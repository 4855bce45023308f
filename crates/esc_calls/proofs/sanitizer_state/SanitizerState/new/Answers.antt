use Rattle.std.proofs.Common.{subst, sym, refl}
use Rattle.esc_sanitize.specs.Sanitized.{HasConsumed}
use Rattle.esc_calls.proofs.Sanitizing.{going_nothing}
use Rattle.esc_calls.specs.Sanitizers.{admitter, chain}
use Rattle.esc_calls.proofs.sanitizer_state.SanitizerState.new.Goals as goal

pub returns : goal.returns
returns c = record {
  fed = subst (λ s. HasConsumed chain admitter s c.new.result)
      (sym (going_nothing c.args.settings.order)) c.new.ensures.fed;
  options = c.new.ensures.options;
  decoder = c.decoder_of.ensures;
  goes_on = refl;
}
