use Rattle.std.proofs.Common.{map, ap, refl, sym, ◌∙◌}
use Rattle.esc_write.proofs.Results.{memory_is_not_fmt, never_without, ok_is_no_error}
use Rattle.esc_write.proofs.encoding.encode.Goals as goal
use Rattle.esc_actions.specs.Meaning.{meaning}
use Rattle.esc_actions.specs.Values.{value_of}

pub returns-in-Ok-clause-text : goal.returns-in-Ok-clause-text
returns-in-Ok-clause-text g c = c.into_string.ensures ∙ c.in-Ok.ensures.text

pub returns-in-Ok-clause-reads_back : goal.returns-in-Ok-clause-reads_back
returns-in-Ok-clause-reads_back g c = λ h.
    let text = c.into_string.ensures ∙ c.in-Ok.ensures.text in (
      ap meaning text ∙ c.reads_back.ensures (map value_of c.args.actions.now) h,
      c.same_text.ensures (map value_of c.args.actions.now) h ∙ sym text,
    )

pub returns-in-Ok-clause-no_text : goal.returns-in-Ok-clause-no_text
returns-in-Ok-clause-no_text g c =
    never_without _ (sym c.have_texts.ensures ∙ c.if-not-have_texts.false)
    (ok_is_no_error _ _ _ refl)

pub returns-in-Err-clause-no_text : goal.returns-in-Err-clause-no_text
returns-in-Err-clause-no_text g c =
    never_without _ (sym c.have_texts.ensures ∙ c.if-not-have_texts.false)
    (memory_is_not_fmt _ refl)

pub returns-then-not-have_texts-clause-no_text : goal.returns-then-not-have_texts-clause-no_text
returns-then-not-have_texts-clause-no_text g c =
    (λ e. sym c.have_texts.ensures ∙ c.if-not-have_texts.true, λ h. refl)

pub returns-in-Err-clause-refused : goal.returns-in-Err-clause-refused
returns-in-Err-clause-refused g c = λ e. (
  c.in-Err.ensures.refused,
  c.in-Err.ensures.memory_refused (sym c.have_texts.ensures ∙ c.if-not-have_texts.false),
)
