use Rattle.std.proofs.Common.{string_bytes, ap, ◌∙◌, ◌++◌, append_assoc}
use Rattle.std.specs.Fmt.{decimal}
use Rattle.esc_html.proofs.Pages.RunIsEachCharacter.{ok_same}
use Rattle.esc_html.proofs.line_writer.push_number.Goals as goal

pub returns-clause-ok : goal.returns-clause-ok
returns-clause-ok g c =
    let d = decimal c.args.number in
    ok_same c.push_display.result _ _ _ c.push_display.ensures.text
    (ap (λ x. x ++ d) c.in_ok-push_str.ensures.bytes
    ∙ append_assoc (string_bytes c.args.text.now) c.args.before.now d)
