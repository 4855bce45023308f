use Rattle.std.proofs.Common.{rules, ◌++◌, ap, sym, subst, ◌∙◌, append_assoc, append-nil, []}
use Rattle.std.specs.Char.{encode_utf8}
use Rattle.dump_page.specs.Quoted.{Quotes}
use Rattle.dump_page.proofs.Quoting.{nothing_left, quotes_more, quotes_nothing}
use Rattle.dump_page.proofs.PlainBytes.{plain_pushed}
use Rattle.dump_page.proofs.quoted.push_text.Goals as goal

pub returns-then-is_plain : goal.returns-then-is_plain
returns-then-is_plain c =
    plain_pushed c.push_str.result c.args.to.now c.push_str.new.self c.args.text.now (search rules)
    c.push_str.ensures.ok

pub loop-c-init : goal.loop-c-init
loop-c-init c = ([], search rules, quotes_nothing _)

pub loop-c-preserved : goal.loop-c-preserved
loop-c-preserved c =
    let held = c.loop-c.invariant in (
      held.0 ++ encode_utf8 c.in-Some.c,
      held.1 ∙ ap (λ z. held.0 ++ z) c.in-Some.ensures.steps.0
          ∙ sym (append_assoc held.0 (encode_utf8 c.in-Some.c) _),
      quotes_more _ _ _ _ _ held.2 c.in_ok-push_char.ensures,
    )

pub returns : goal.returns
returns c =
    let held = c.loop-c.invariant in
    let all = held.1 ∙ ap (λ z. held.0 ++ z) (nothing_left _ c.in-None.ensures.steps.0.0)
    ∙ append-nil held.0 in
    subst (λ z. Quotes c.args.to.now c.loop-c.to z) (sym all) held.2
