use Rattle.std.proofs.Common.{Global, ◌++◌, [], false, Some, ap, sym, subst, ◌∙◌}
use Rattle.std.specs.List.{filter}
use Rattle.esc_actions.proofs.Meaning.MeaningsJoin.{meaning_nil}
use Rattle.esc_actions.specs.Texts.{list_text}
use Rattle.esc_filter.specs.Fed.{HasConsumed, added_by}
use Rattle.esc_filter.specs.Passing.{passed_text, passes}
use Rattle.esc_filter.specs.Rules.{admits}
use Rattle.esc_filter.specs.Characters.{keep_all}
use Rattle.esc_calls.proofs.filter.filtered.Goals as goal

pub returns-in-Ok-clause-ok : goal.returns-in-Ok-clause-ok
returns-in-Ok-clause-ok c =
    let limit = c.args.limit in
    let new = c.new-filter.result in
    let is = c.new-filter.ensures.policy in
    let fed = subst (λ p. HasConsumed limit (admits {A = Global} p) [] new) (sym is)
    c.new-filter.ensures.fed in
    let given = c.in-Ok.ensures.given false keep_all limit [] fed in
    let nothing = ap (λ vs. list_text (filter (passes (admits {A = Global} new.policy)) vs))
    (meaning_nil (Some limit)) in
    sym (ap (λ t. t ++ added_by c.feed.new.self) nothing) ∙ sym given.1
    ∙ ap (λ p. passed_text {A = Global} (Some limit) (admits p) c.args.bytes.now) is

pub returns-in-Err-clause-refused : goal.returns-in-Err-clause-refused
returns-in-Err-clause-refused c =
    let new = c.new-filter.result in
    let fed = subst (λ p. HasConsumed c.args.limit (admits {A = Global} p) [] new)
    (sym c.new-filter.ensures.policy) c.new-filter.ensures.fed in
    (c.in-Err.ensures.refused false keep_all c.args.limit [] fed).3
