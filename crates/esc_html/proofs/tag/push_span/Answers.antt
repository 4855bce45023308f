use Rattle.std.proofs.Common.{codes, false, string_bytes, refl, ap, ◌∙◌, ◌++◌}
use Rattle.esc_html.proofs.Texts.AttributesAreWhole.{tag_joined}
use Rattle.esc_html.proofs.Texts.RunsAreEscaped.{ascii_utf8, grown_ok, grows_literal, grows_on, grows_same, grows_then}
use Rattle.esc_style.specs.Looks.{look_classes, look_styles, values_of}
use Rattle.esc_html.specs.PageParts.{attributes_text, class_attribute, span_attributes, style_attribute}
use Rattle.esc_html.proofs.tag.push_span.Goals as goal

pub returns-in_err-push_str-clause-grown : goal.returns-in_err-push_str-clause-grown
returns-in_err-push_str-clause-grown g c =
    grows_same (string_bytes c.args.html.now) (string_bytes c.push_str.new.text)
    c.in_err-push_str.ensures.bytes

pub returns-in_err-push_class_attribute-clause-grown :
    goal.returns-in_err-push_class_attribute-clause-grown
returns-in_err-push_class_attribute-clause-grown g c =
    let old = string_bytes c.args.html.now in
    let one = string_bytes c.push_str.new.text in
    grows_then old one (string_bytes c.push_class_attribute.new.html)
    (grows_literal old one (codes "<span") refl c.in_ok-push_str.ensures.bytes)
    c.push_class_attribute.ensures.grown

pub returns-in_err-push_style_attribute-clause-grown :
    goal.returns-in_err-push_style_attribute-clause-grown
returns-in_err-push_style_attribute-clause-grown g c =
    let old = string_bytes c.args.html.now in
    let one = string_bytes c.push_str.new.text in
    let two = string_bytes c.push_class_attribute.new.html in
    grows_then old two (string_bytes c.push_style_attribute.new.html)
    (grows_then old one two
    (grows_literal old one (codes "<span") refl c.in_ok-push_str.ensures.bytes)
    c.push_class_attribute.ensures.grown) c.push_style_attribute.ensures.grown

pub returns-clause-ok : goal.returns-clause-ok
returns-clause-ok g c =
    let old = string_bytes c.args.html.now in
    let one = string_bytes c.push_str.new.text in
    let two = string_bytes c.push_class_attribute.new.html in
    let three = string_bytes c.push_style_attribute.new.html in
    let look = c.args.look.now in
    grown_ok c.push_str-2.result three (string_bytes c.push_str-2.new.text) (codes ">")
    (old ++ (codes "<span" ++ (attributes_text (span_attributes false look) ++ codes ">")))
    c.push_str-2.ensures.bytes
    (tag_joined old one two three (class_attribute (values_of (look_classes look)))
    (style_attribute (values_of (look_styles look))) c.in_ok-push_str.ensures.bytes
    (c.in_ok-push_class_attribute.ensures.ok
    ∙ ap (λ x. one ++ attributes_text (class_attribute (values_of x))) c.classes.ensures)
    (c.in_ok-push_style_attribute.ensures.ok
    ∙ ap (λ x. two ++ attributes_text (style_attribute (values_of x))) c.styles.ensures))

pub returns-clause-grown : goal.returns-clause-grown
returns-clause-grown g c =
    let old = string_bytes c.args.html.now in
    let one = string_bytes c.push_str.new.text in
    let two = string_bytes c.push_class_attribute.new.html in
    let three = string_bytes c.push_style_attribute.new.html in
    grows_on c.push_str-2.result old three (string_bytes c.push_str-2.new.text) (codes ">")
    (grows_then old two three (grows_then old one two
    (grows_literal old one (codes "<span") refl c.in_ok-push_str.ensures.bytes)
    c.push_class_attribute.ensures.grown) c.push_style_attribute.ensures.grown)
    (ascii_utf8 (codes ">") refl) c.push_str-2.ensures.bytes
