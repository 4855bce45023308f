use Rattle.std.proofs.Common.{codes, string_bytes, refl, ◌++◌}
use Rattle.std.specs.List.{flat_map}
use Rattle.esc_html.specs.PageParts.{escape_value}
use Rattle.esc_html.proofs.Texts.RunsAreEscaped.{ascii_utf8, grown_ok, grows_literal, grows_on, grows_same, grows_then, three_joined}
use Rattle.esc_html.proofs.writing.push_link.Goals as goal

pub returns-in_err-push_str-clause-grown : goal.returns-in_err-push_str-clause-grown
returns-in_err-push_str-clause-grown g c =
    grows_same (string_bytes c.args.html.now) (string_bytes c.push_str.new.text)
    c.in_err-push_str.ensures.bytes

pub returns-in_err-push_escaped-clause-grown : goal.returns-in_err-push_escaped-clause-grown
returns-in_err-push_escaped-clause-grown g c =
    let old = string_bytes c.args.html.now in
    let one = string_bytes c.push_str.new.text in
    grows_then old one (string_bytes c.push_escaped.new.html)
    (grows_literal old one (codes "<a href=\"") refl c.in_ok-push_str.ensures.bytes)
    c.push_escaped.ensures.grown

pub returns-clause-ok : goal.returns-clause-ok
returns-clause-ok g c =
    let old = string_bytes c.args.html.now in
    let two = string_bytes c.push_escaped.new.html in
    let value = flat_map escape_value c.args.address.now in
    grown_ok c.push_str-2.result two (string_bytes c.push_str-2.new.text)
    (codes "\" rel=\"nofollow noopener noreferrer\">")
    (old ++ (codes "<a href=\"" ++ (value ++ codes "\" rel=\"nofollow noopener noreferrer\">")))
    c.push_str-2.ensures.bytes
    (three_joined old (string_bytes c.push_str.new.text) two (codes "<a href=\"") value
    (codes "\" rel=\"nofollow noopener noreferrer\">") c.in_ok-push_str.ensures.bytes
    c.in_ok-push_escaped.ensures.ok)

pub returns-clause-grown : goal.returns-clause-grown
returns-clause-grown g c =
    let old = string_bytes c.args.html.now in
    let one = string_bytes c.push_str.new.text in
    let two = string_bytes c.push_escaped.new.html in
    grows_on c.push_str-2.result old two (string_bytes c.push_str-2.new.text)
    (codes "\" rel=\"nofollow noopener noreferrer\">")
    (grows_then old one two
    (grows_literal old one (codes "<a href=\"") refl c.in_ok-push_str.ensures.bytes)
    c.push_escaped.ensures.grown)
    (ascii_utf8 (codes "\" rel=\"nofollow noopener noreferrer\">") refl) c.push_str-2.ensures.bytes
