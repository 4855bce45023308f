use Rattle.std.proofs.Common.{codes, string_bytes, ap, ◌∙◌, ◌++◌}
use Rattle.std.specs.Fmt.{decimal}
use Rattle.esc_html.specs.Lines.{line_begin}
use Rattle.esc_html.proofs.Lines.StateOfLines.{begun_text, number_text}
use Rattle.esc_html.proofs.Texts.RunsAreEscaped.{grown_ok}
use Rattle.esc_html.proofs.line_writer.push_begin.Goals as goal

pub returns-clause-ok : goal.returns-clause-ok
returns-clause-ok g c =
    let old = string_bytes c.args.text.now in
    let d = decimal c.args.number in
    let a = codes "<span class=\"es-line\" id=\"L" in
    let b = codes "\"><a href=\"#L" in
    let last = codes "\" tabindex=\"-1\" aria-hidden=\"true\"></a>" in
    let two = string_bytes c.push_number-2.new.text in
    grown_ok c.push_str.result two (string_bytes c.push_str.new.text) last
    (old ++ line_begin c.args.number) c.push_str.ensures.bytes
    (begun_text old (string_bytes c.push_number.new.text) two a d b last
    c.in_ok-push_number.ensures.ok c.in_ok-push_number-2.ensures.ok
    ∙ ap (λ x. old ++ (a ++ (x ++ (b ++ (x ++ last)))))
    (number_text c.args.number c.ranges.number.fits))
