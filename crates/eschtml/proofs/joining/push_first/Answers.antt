use Rattle.std.proofs.Common.{◌++◌, get_or, ap, sym, ◌∙◌, arith}
use Rattle.std.proofs.lemmas.List.{append-nil, take_more}
use Rattle.eschtml.specs.Joined.{bytes_past, held_after, joined_after}
use Rattle.eschtml.proofs.joining.push_first.Goals as goal

pub returns-clause-ok : goal.returns-clause-ok
returns-clause-ok g c =
    let k = c.args.held in
    let t0 = c.args.text.now.items in
    let b = get_or c.args.bytes.now 0 0 in
    let one = take_more c.args.bytes.now 0 0 (omega arith) in
    let r = c.in_ok-next.ensures.ok in (
      r.0 ∙ ap (λ t. t0 ++ t) (sym (append-nil (bytes_past k b)))
          ∙ ap (λ x. t0 ++ joined_after k x) (sym one),
      r.1 ∙ ap (held_after k) (sym one),
    )
