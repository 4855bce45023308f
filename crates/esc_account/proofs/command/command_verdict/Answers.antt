use Rattle.std.proofs.Common.{◌≡◌, ◌+◌, None, length, sym, ◌∙◌, arith}
use Rattle.esc_write.specs.Plain.{IsVerbatim}
use Rattle.esc_account.specs.Passing.{passed_as}
use Rattle.esc_account.proofs.AtOnce.CommandsAreLeftOut.{command_left, command_passed, some_so}
use Rattle.esc_account.proofs.command.command_verdict.Goals as goal

pub returns-in-Some-false : goal.returns-in-Some-false
returns-in-Some-false g c = λ l u s gs each item.
    command_left u c.args.limit (g.P.Admit.admits c.args.policy.now) c.args.before l s gs
    c.args.segment.bytes.now c.in-Some.text.now each
    (sym item.kind ∙ c.is_osc.ensures c.if-not-is_osc.false)
    item.bytes (sym item.finished ∙ c.if-not-segment.false) c.in-Some.ensures.text
    c.in-Some.ensures.each (omega arith)
    (c.in-Some-false.ensures ∙ c.in-Some-false.field-0-test)

pub returns-in-Some-true : goal.returns-in-Some-true
returns-in-Some-true g c = λ l u s gs each item.
    some_so
    {P = IsVerbatim g.row.A.Denot c.in-Some.text.now
    × (length c.args.segment.bytes.now ≡ length c.in-Some.text.now + 2)}
    c.passed_link.result (passed_as None) _ c.passed_link.ensures
    (λ p. command_passed u c.args.limit (g.P.Admit.admits c.args.policy.now) c.args.before l s gs
    c.args.segment.bytes.now c.in-Some.text.now each
    (sym item.kind ∙ c.is_osc.ensures c.if-not-is_osc.false)
    item.bytes (sym item.finished ∙ c.if-not-segment.false) c.in-Some.ensures.text
    c.in-Some.ensures.each (omega arith)
    (c.in-Some-true.ensures ∙ c.in-Some-true.field-0-test) p.0 p.1)
