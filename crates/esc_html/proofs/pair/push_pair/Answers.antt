use Rattle.std.proofs.Common.{string_bytes, ap, ◌∙◌, ◌++◌, append_assoc}
use Rattle.esc_html.proofs.Texts.RunsAreEscaped.{grown_ok, grows_by, grows_not, grows_on, grows_same}
use Rattle.esc_html.proofs.pair.push_pair.Goals as goal

pub returns-in_err-push_str-clause-grown : goal.returns-in_err-push_str-clause-grown
returns-in_err-push_str-clause-grown g c =
    grows_same (string_bytes c.args.html.now) (string_bytes c.push_str.new.text)
    c.in_err-push_str.ensures.bytes

pub returns-clause-ok : goal.returns-clause-ok
returns-clause-ok g c =
    let old = string_bytes c.args.html.now in
    let one = string_bytes c.push_str.new.text in
    let a = c.args.first.now in
    let b = c.args.second.now in
    grown_ok c.push_str-2.result one (string_bytes c.push_str-2.new.text) b (old ++ (a ++ b))
    c.push_str-2.ensures.bytes
    (ap (λ x. x ++ b) c.in_ok-push_str.ensures.bytes ∙ append_assoc old a b)

pub returns-clause-grown : goal.returns-clause-grown
returns-clause-grown g c =
    let old = string_bytes c.args.html.now in
    let one = string_bytes c.push_str.new.text in
    grows_on c.push_str-2.result old one (string_bytes c.push_str-2.new.text) c.args.second.now
    (grows_by old old one c.args.first.now (grows_not old) c.utf8.first
    c.in_ok-push_str.ensures.bytes) c.utf8.second c.push_str-2.ensures.bytes
