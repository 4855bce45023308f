use Rattle.std.proofs.Common.{rules, ◌≡◌, take, get_or, ◌∙◌, sym, subst, arith}
use Rattle.std.proofs.lemmas.Bool.{eqb-false}
use Rattle.esc_account.specs.Passing.{IsPassing}
use Rattle.esc_account.specs.Rules.{rule_of}
use Rattle.esc_account.proofs.AtOnce.CharactersPass.{feed_passes, none_pass, one_ahead, tab_passes}
use Rattle.esc_account.proofs.text.single_ahead.Goals as goal

pub returns-then-is_empty-clause-pass : goal.returns-then-is_empty-clause-pass
returns-then-is_empty-clause-pass g c = λ by_lines u limit.
    none_pass (rule_of by_lines u limit (g.P.Admit.admits c.args.policy.now)) c.args.before

pub returns-then-bytes-eq9-clause-pass : goal.returns-then-bytes-eq9-clause-pass
returns-then-bytes-eq9-clause-pass g c = λ by_lines u limit.
    let s = c.args.bytes.now in
    let admits = g.P.Admit.admits c.args.policy.now in
    let some = eqb-false _ _ (sym c.is_empty.ensures ∙ c.if-is_empty.false) in
    let first : get_or s 0 0 ≡ 0x09 = search rules in
    let r = rule_of by_lines u limit admits in
    let b = c.args.before in
    let n = c.control_ahead.result.0 in
    subst (IsPassing r b (take n s)) (sym c.control_ahead.ensures.last)
    (one_ahead r b n s 0x09 c.control_ahead.ensures.few (grind (arith, some)) first
    (λ is. tab_passes by_lines u limit admits (c.control_ahead.ensures.admits is) b))

pub returns-then-bytes-eq10-clause-pass : goal.returns-then-bytes-eq10-clause-pass
returns-then-bytes-eq10-clause-pass g c = λ by_lines u limit.
    let s = c.args.bytes.now in
    let admits = g.P.Admit.admits c.args.policy.now in
    let some = eqb-false _ _ (sym c.is_empty.ensures ∙ c.if-is_empty.false) in
    let first : get_or s 0 0 ≡ 0x0a = search rules in
    let r = rule_of by_lines u limit admits in
    let b = c.args.before in
    let n = c.control_ahead-then-bytes-eq10.result.0 in
    subst (IsPassing r b (take n s)) (sym c.control_ahead-then-bytes-eq10.ensures.last)
    (one_ahead r b n s 0x0a c.control_ahead-then-bytes-eq10.ensures.few (grind (arith, some)) first
    (λ is. feed_passes by_lines u limit admits
    (c.control_ahead-then-bytes-eq10.ensures.admits is) b))

pub returns-then-bytes-lt194-clause-pass : goal.returns-then-bytes-lt194-clause-pass
returns-then-bytes-lt194-clause-pass g c = λ by_lines u limit.
    none_pass (rule_of by_lines u limit (g.P.Admit.admits c.args.policy.now)) c.args.before
