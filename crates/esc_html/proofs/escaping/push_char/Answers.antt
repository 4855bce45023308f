use Rattle.std.proofs.Common.{string_bytes, ap, sym, ◌∙◌, ◌++◌}
use Rattle.std.specs.Char.{encode_utf8}
use Rattle.std.specs.List.{flat_map}
use Rattle.esc_html.proofs.Texts.EscapedBytesAreUtf8.{referenced, unreferenced}
use Rattle.esc_html.proofs.Texts.RunsAreEscaped.{grown_ok}
use Rattle.esc_html.specs.PageParts.{escape_text}
use Rattle.esc_html.proofs.escaping.push_char.Goals as goal

pub returns-then-needs_reference-clause-ok : goal.returns-then-needs_reference-clause-ok
returns-then-needs_reference-clause-ok g c =
    let old = string_bytes c.args.html.now in
    grown_ok c.push_str.result old (string_bytes c.push_str.new.text) c.char_reference.result.now
    (old ++ flat_map escape_text (encode_utf8 c.args.c)) c.push_str.ensures.bytes
    (ap (λ x. old ++ x) (c.char_reference.ensures
    ∙ referenced c.args.c (sym c.needs_reference.ensures ∙ c.if-needs_reference.true)))

pub returns-else-needs_reference-clause-ok : goal.returns-else-needs_reference-clause-ok
returns-else-needs_reference-clause-ok g c =
    let old = string_bytes c.args.html.now in
    grown_ok c.push_char.result old (string_bytes c.push_char.new.text) (encode_utf8 c.args.c)
    (old ++ flat_map escape_text (encode_utf8 c.args.c)) c.push_char.ensures.bytes
    (ap (λ x. old ++ x)
    (unreferenced c.args.c (sym c.needs_reference.ensures ∙ c.if-needs_reference.false)))
