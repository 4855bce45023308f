use Rattle.std.proofs.Common.{◌≡◌, ◌++◌, Some, ap, sym, ◌∙◌}
use Rattle.esc_frame.specs.declared.error.ParseError.TheVariants as error
use Rattle.esc_calls.proofs.Keeping.{kept_has}
use Rattle.esc_calls.specs.InChunks.{text_in}
use Rattle.esc_calls.specs.Kept.{sanitizer_in, sanitizer_state_in}
use Rattle.esc_calls.specs.SanitizerChunks.{error_status}
use Rattle.esc_calls.specs.SanitizerStates.{IsFed, going}
use Rattle.esc_calls.proofs.sanitizer_chunks.sanitizer_finish.Goals as goal

pub returns-in-Ok-clause-finished : goal.returns-in-Ok-clause-finished
returns-in-Ok-clause-finished c = λ o s h done.
    let is = ap sanitizer_state_in
    (c.in-Some.ensures.some ∙ ap Some (sym c.deref_mut.ensures.value ∙ c.in-Sanitizer.is)) in
    let f = kept_has sanitizer_state_in (λ z. IsFed o s z) c.args.sanitizer.now
    c.in-Sanitizer.state is h in
    let k = c.in-Ok.ensures.ended o s f in
    record {
      text = k.text ∙ ap (λ t. going o s ++ t) (sym (ap text_in c.of.ensures.begun));
      chunks = c.writes_chunks.ensures o.filter;
      account = (c.finish.new.self.sanitizer, ap sanitizer_in c.of.ensures.begun, k.account);
    }

pub returns-in-Err-clause-memory : goal.returns-in-Err-clause-memory
returns-in-Err-clause-memory c = λ o s h differs.
    let is = ap sanitizer_state_in
    (c.in-Some.ensures.some ∙ ap Some (sym c.deref_mut.ensures.value ∙ c.in-Sanitizer.is)) in
    let f = kept_has sanitizer_state_in (λ z. IsFed o s z) c.args.sanitizer.now
    c.in-Sanitizer.state is h in
    let k = c.in-Err.ensures.memory o s f in
    let why : c.in-Err.error ≡ error.Memory = cc in
    (c.status_of.ensures ∙ ap error_status why, k.1)
