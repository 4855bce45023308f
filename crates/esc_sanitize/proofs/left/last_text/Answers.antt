use Rattle.std.proofs.Common.{rules, ◌≡◌, ◌++◌, ap, append_assoc, subst, sym, ◌∙◌}
use Rattle.line_collapse.specs.Fed.{TakesIn, added_by}
use Rattle.line_collapse.specs.Streams.{final_of, open_of, values_of}
use Rattle.esc_sanitize.proofs.left.last_text.Goals as goal

pub returns-clause-ended : goal.returns-clause-ended
returns-clause-ended g c = λ z u fed.
    let A = g.row.A.Denot in
    let t = c.args.text.now in
    let same : c.as_bytes.result.now ≡ t = search rules in
    let k = subst (λ x. TakesIn z u x c.feed.new.self) same (c.in_ok-feed.ensures.given z u fed) in
    let m = c.in_ok-finish.ensures.ended z (u ++ t) k.0 in
    let first = added_by c.feed.new.self in
    let final = final_of z (values_of A u) in
    let rest = open_of z (values_of A (u ++ t)) in
    let whole = c.in_ok-push_str-2.ensures.bytes
    ∙ ap (λ x. x ++ c.output-2.result.now) (c.in_ok-push_str.ensures.bytes
    ∙ ap (λ x. x ++ c.output.result.now) c.new-last.ensures.bytes ∙ c.output.ensures)
    ∙ ap (λ x. first ++ x) (c.output-2.ensures ∙ m.1) in
    ap (λ x. x ++ rest) k.1 ∙ append_assoc final first rest ∙ ap (λ x. final ++ x) (sym whole)

pub returns-clause-fed : goal.returns-clause-fed
returns-clause-fed g c = λ z u fed.
    let t = c.args.text.now in
    let same : c.as_bytes.result.now ≡ t = search rules in
    let k = subst (λ x. TakesIn z u x c.feed.new.self) same (c.in_ok-feed.ensures.given z u fed) in
    (c.in_ok-finish.ensures.ended z (u ++ t) k.0).0
