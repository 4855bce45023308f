use Rattle.std.proofs.Common.{◌∙◌, ap, sym, subst}
use Rattle.esc_frame.specs.declared.unfinished.body.Form.TheVariants as form
use Rattle.esc_frame.specs.Bodies.{is_dcs_parameter}
use Rattle.esc_frame.specs.Machine.Keeps.{Keeps, next_form_by, others_of}
use Rattle.esc_frame.proofs.Steps.FormsGrow.{push_by}
use Rattle.esc_frame.proofs.Steps.HeadersAreKept.{others_push, others_same}
use Rattle.esc_frame.proofs.unfinished.header.DcsHeader.push.Goals as goal

pub returns-then-not-is_parameter : goal.returns-then-not-is_parameter
returns-then-not-is_parameter c = λ x k. (
  subst (Keeps c.push.new.self)
      (others_push x c.args.byte (sym c.is_parameter.ensures ∙ c.if-not-is_parameter.true))
      (c.push.ensures (others_of x) k.0),
  c.next_form-self.ensures ∙ ap (λ f. next_form_by is_dcs_parameter f c.args.byte) k.1
      ∙ sym (push_by is_dcs_parameter form.Empty x c.args.byte),
)

pub returns-else-not-is_parameter : goal.returns-else-not-is_parameter
returns-else-not-is_parameter c = λ x k. (
  subst (Keeps c.args.self.now.intermediates)
      (others_same x c.args.byte (sym c.is_parameter.ensures ∙ c.if-not-is_parameter.false)) k.0,
  c.next_form-self.ensures ∙ ap (λ f. next_form_by is_dcs_parameter f c.args.byte) k.1
      ∙ sym (push_by is_dcs_parameter form.Empty x c.args.byte),
)
