use Rattle.std.proofs.Common.{codes, string_bytes, true, refl, ◌++◌}
use Rattle.esc_html.proofs.Texts.AttributesAreWhole.{inline_joined}
use Rattle.esc_html.proofs.Texts.RunsAreEscaped.{grown_ok}
use Rattle.esc_html.specs.Inline.{colors_text, keywords_text}
use Rattle.esc_html.specs.PageParts.{page_part_text, span}
use Rattle.esc_html.proofs.inline.push_inline_span.Goals as goal

pub returns-clause-ok : goal.returns-clause-ok
returns-clause-ok g c =
    let old = string_bytes c.args.html.now in
    let three = string_bytes c.push_colors.new.html in
    let l = c.args.look.now in
    grown_ok c.push_str-2.result three (string_bytes c.push_str-2.new.text) (codes "\">")
    (old ++ page_part_text (span true l)) c.push_str-2.ensures.bytes
    (inline_joined old (string_bytes c.push_str.new.text) (string_bytes c.push_keywords.new.html)
    three (three ++ codes "\">") (keywords_text l) (colors_text l) c.in_ok-push_str.ensures.bytes
    c.in_ok-push_keywords.ensures.ok c.in_ok-push_colors.ensures.ok refl)
