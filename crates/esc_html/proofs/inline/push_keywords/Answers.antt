use Rattle.std.proofs.Common.{string_bytes, ap, ◌∙◌}
use Rattle.esc_html.proofs.Pages.RunIsEachCharacter.{ok_same}
use Rattle.esc_html.proofs.Texts.AttributesAreWhole.{pairs_added}
use Rattle.esc_html.specs.Inline.{is_underlined, kind_text, lines_text, slant_text, weight_text}
use Rattle.esc_html.proofs.inline.push_keywords.Goals as goal

pub returns-clause-ok : goal.returns-clause-ok
returns-clause-ok g c =
    let l = c.args.look.now in
    ok_same c.push_pair-2.result _ _ _ c.push_pair-2.ensures.ok
    (pairs_added (string_bytes c.args.html.now) (string_bytes c.push_pair.new.html)
    c.weight.result.now c.slant.result.now c.lines.result.now c.kind.result.now
    (weight_text l.bold l.faint) (slant_text l.italic)
    (lines_text (is_underlined l.underline) l.strikethrough l.overline l.blink)
    (kind_text l.underline) c.in_ok-push_pair.ensures.ok c.weight.ensures c.slant.ensures
    (c.lines.ensures
    ∙ ap (λ u. lines_text u l.strikethrough l.overline l.blink) c.is_underlined-underlined.ensures)
    c.kind.ensures)
