use Rattle.std.proofs.Common.{◌∙◌, ap, sym}
use Rattle.esc_frame.specs.declared.unfinished.body.Form.TheVariants as form
use Rattle.esc_frame.specs.Machine.Keeps.{next_form}
use Rattle.esc_frame.proofs.Steps.FormsGrow.{form_push}
use Rattle.esc_frame.proofs.unfinished.body.CsiBody.push.Goals as goal

pub returns : goal.returns
returns c = λ x h. (
  c.push.ensures x h.0,
  c.next-self.ensures ∙ ap (λ f. next_form f c.args.byte) h.1
      ∙ sym (form_push form.Empty x c.args.byte),
)
