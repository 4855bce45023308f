use Rattle.std.proofs.Common.{rules, ◌++◌, ap, sym, subst, ◌∙◌, append_assoc, append-nil, []}
use Rattle.dump_page.specs.Quoted.{Quotes}
use Rattle.dump_page.proofs.Quoting.{nothing_left, quotes_more, quotes_nothing}
use Rattle.dump_page.proofs.quoted.push_quoted.Goals as goal

pub loop-chunk-init : goal.loop-chunk-init
loop-chunk-init c = ([], search rules, quotes_nothing _)

pub loop-chunk-preserved : goal.loop-chunk-preserved
loop-chunk-preserved c =
    let held = c.loop-chunk.invariant in
    let valid = c.in-Some.chunk.valid.now in
    let invalid = c.in-Some.chunk.invalid.now in (
      held.0 ++ (valid ++ invalid),
      held.1 ∙ ap (λ z. held.0 ++ z) (c.in-Some.ensures.steps.0
          ∙ sym (append_assoc valid invalid _)) ∙ sym (append_assoc held.0 (valid ++ invalid) _),
      quotes_more _ _ _ _ _ held.2 c.in_ok-push_chunk.ensures,
    )

pub returns : goal.returns
returns c =
    let held = c.loop-chunk.invariant in
    let all = held.1 ∙ ap (λ z. held.0 ++ z) (nothing_left _ c.in-None.ensures.steps.0)
    ∙ append-nil held.0 in
    subst (λ z. Quotes c.args.to.now c.loop-chunk.to z) (sym all) held.2
