use Rattle.std.proofs.Common.{◌≡◌, false, take, ◌∙◌, sym, arith}
use Rattle.unicode_visibility.specs.Characters.{is_deceiving}
use Rattle.esc_account.specs.Rules.{rule_of}
use Rattle.esc_account.proofs.AtOnce.CharactersPass.{none_pass, wide_passes}
use Rattle.esc_account.proofs.text.wide_ahead.Goals as goal

pub returns-then-count-eq0-clause-pass : goal.returns-then-count-eq0-clause-pass
returns-then-count-eq0-clause-pass g c = λ by_lines u limit.
    none_pass (rule_of by_lines u limit (g.P.Admit.admits c.args.policy.now)) c.args.before

pub returns-then-is_deceiving-clause-pass : goal.returns-then-is_deceiving-clause-pass
returns-then-is_deceiving-clause-pass g c = λ by_lines u limit.
    none_pass (rule_of by_lines u limit (g.P.Admit.admits c.args.policy.now)) c.args.before

pub returns-then-admits-clause-pass : goal.returns-then-admits-clause-pass
returns-then-admits-clause-pass g c = λ by_lines u limit.
    let admits = g.P.Admit.admits c.args.policy.now in
    let n = c.character_ahead-count.result.0 in
    let letter = c.character_ahead-count.result.1 in
    let one = c.character_ahead-count.ensures (omega (arith, c.if-count-eq0.false)) in
    let plain : is_deceiving letter ≡ false =
    sym c.is_deceiving.ensures ∙ c.if-is_deceiving.false in
    let x = take n c.args.bytes.now in
    wide_passes by_lines u limit admits x letter one.1.0 one.1.1 one.1.2 plain
    (sym c.admits.ensures ∙ c.if-admits.true) c.args.before

pub returns-clause-pass : goal.returns-clause-pass
returns-clause-pass g c = λ by_lines u limit.
    none_pass (rule_of by_lines u limit (g.P.Admit.admits c.args.policy.now)) c.args.before
