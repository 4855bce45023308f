use Rattle.std.proofs.Common.{◌++◌, string_bytes, ap, ◌∙◌}
use Rattle.esc_html.proofs.Pages.RunIsEachCharacter.{ok_same}
use Rattle.esc_html.proofs.Texts.RunsAreEscaped.{three_joined}
use Rattle.esc_html.specs.Inline.{background_text, decoration_text, foreground_text}
use Rattle.esc_style.specs.Looks.{seen_foreground, shown_background}
use Rattle.esc_html.proofs.inline.push_colors.Goals as goal

pub returns-clause-ok : goal.returns-clause-ok
returns-clause-ok g c =
    let l = c.args.look.now in
    let one = string_bytes c.push_declared.new.html in
    let two = string_bytes c.push_declared-2.new.html in
    let old = string_bytes c.args.html.now in
    ok_same c.push_declared-3.result _ _ _ c.push_declared-3.ensures.ok
    (ap (λ x. two ++ x) c.decoration.ensures ∙ three_joined old one two
    (foreground_text l.concealed l.inverse (seen_foreground l) (shown_background l))
    (background_text l.inverse (seen_foreground l) (shown_background l))
    (decoration_text l.underline_color)
    (c.in_ok-push_declared.ensures.ok ∙ ap (λ x. old ++ x) c.foreground.ensures)
    (c.in_ok-push_declared-2.ensures.ok ∙ ap (λ x. one ++ x) c.background.ensures))
