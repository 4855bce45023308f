use Rattle.std.proofs.Common.{rules, ap, subst, sym, ◌∙◌}
use Rattle.esc_frame.specs.Bodies.{is_dcs_parameter}
use Rattle.esc_frame.specs.Machine.Keeps.{next_form_by, parameters_of}
use Rattle.heapless_parser.specs.Numbers.{form_numbered}
use Rattle.heapless_parser.specs.States.{FirstIn, TextIn}
use Rattle.heapless_parser.proofs.InChunks.HeaderBytes.{parameter_more, parameters_push}
use Rattle.heapless_parser.proofs.headers.push_parameter.Goals as goal

pub returns : goal.returns
returns c = record {
  other = search rules;
  same = search rules;
  text = λ yes x h.
      let r = c.append.new.parser in
      subst (TextIn (record r { form = c.next_form-parser.result }) c.append.new.memory)
      (parameters_push x c.args.byte c.requires)
      (c.append.ensures.kept c.if-not-append.false (parameters_of x) h);
  header = λ yes x h.
      let r = c.append.new.parser in
      let same = c.append.ensures.same in
      parameter_more c.args.parser.now (record r { form = c.next_form-parser.result }) x c.args.byte
      h
      (c.next_form-parser.ensures
      ∙ ap (λ q. next_form_by is_dcs_parameter (form_numbered q.form) c.args.byte) same)
      c.requires (λ y f. subst (λ q. FirstIn q y) (sym same) f);
}
