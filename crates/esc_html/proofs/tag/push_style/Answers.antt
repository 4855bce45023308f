use Rattle.std.proofs.Common.{string_bytes}
use Rattle.esc_html.proofs.Texts.EscapedBytesAreUtf8.{code_small}
use Rattle.esc_html.proofs.Texts.RunsAreEscaped.{grows_on}
use Rattle.esc_style.specs.Styles.{style_color}
use Rattle.esc_html.proofs.tag.push_style.Goals as goal

pub as_str-requires : goal.as_str-requires
as_str-requires g c = rw c.code-code.ensures (code_small (style_color c.args.style.now))

pub returns-in_err-push_pair-clause-grown : goal.returns-in_err-push_pair-clause-grown
returns-in_err-push_pair-clause-grown g c = c.push_pair.ensures.grown

pub returns-clause-grown : goal.returns-clause-grown
returns-clause-grown g c =
    grows_on c.push_str.result (string_bytes c.args.html.now) (string_bytes c.push_pair.new.html)
    (string_bytes c.push_str.new.text) c.as_str.result.now c.push_pair.ensures.grown
    c.as_str.utf8 c.push_str.ensures.bytes
