use Rattle.std.proofs.Common.{sym, ◌∙◌}
use Rattle.esc_account.proofs.AtOnce.CommandsAreLeftOut.{end_left}
use Rattle.esc_account.proofs.Segments.SequencesWithoutNoise.{not_false}
use Rattle.esc_account.proofs.command.is_left_end.Goals as goal

pub returns : goal.returns
returns g c = λ h l u limit b s gs each item.
    end_left u limit (g.P.Admit.admits c.args.policy.now) b l s gs c.args.segment.bytes.now each
    (sym item.kind ∙ c.is_escape.ensures c.if-not-is_escape.false) item.bytes
    (sym c.is_end.ensures ∙ h)
    (c.known.ensures.no_escapes (not_false c.known.result.no_escapes c.if-not-known.false))
