use Rattle.std.proofs.Common.{ap, ◌∙◌}
use Rattle.esc_frame.specs.Bodies.{is_dcs_parameter}
use Rattle.esc_frame.specs.Machine.Keeps.{next_form_by}
use Rattle.heapless_parser.specs.Numbers.{form_numbered}
use Rattle.heapless_parser.proofs.InChunks.HeaderBytes.{other_more}
use Rattle.heapless_parser.proofs.headers.push_other.Goals as goal

pub returns-clause-header : goal.returns-clause-header
returns-clause-header c = λ x h.
    let r = c.push_intermediate.new.parser in
    let same = c.push_intermediate.ensures.same in
    other_more c.args.parser.now (record r { form = c.next_form-parser.result }) x c.args.byte h
    (c.next_form-parser.ensures
    ∙ ap (λ q. next_form_by is_dcs_parameter (form_numbered q.form) c.args.byte) same)
    c.requires c.push_intermediate.ensures.first
