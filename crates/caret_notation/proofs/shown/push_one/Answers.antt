use Rattle.std.proofs.Common.{◌++◌, get_or, ap, sym, ◌∙◌, arith}
use Rattle.std.proofs.lemmas.List.{append-nil, take_more}
use Rattle.esc_frame.specs.Machine.Prefixes.{prefix_of}
use Rattle.esc_frame.specs.Sequences.{outcome}
use Rattle.caret_notation.specs.Visible.{begun_after, next_text, settled_text}
use Rattle.caret_notation.proofs.shown.push_one.Goals as goal

pub returns-clause-ok : goal.returns-clause-ok
returns-clause-ok g c =
    let f = prefix_of c.args.begun in
    let t0 = c.args.text.now.items in
    let b = get_or c.args.bytes.now 0 0 in
    let one = take_more c.args.bytes.now 0 0 (omega arith) in
    let k = c.in_ok-next.ensures.ok in (
      k.0 ∙ ap (λ t. t0 ++ t) (sym (append-nil (next_text f b (outcome f b))))
          ∙ ap (λ x. t0 ++ settled_text f x) (sym one),
      k.1 ∙ ap (begun_after f) (sym one),
    )
