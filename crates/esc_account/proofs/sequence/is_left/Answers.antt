use Rattle.std.proofs.Common.{sym, ◌∙◌}
use Rattle.esc_account.proofs.Segments.SequencesWithoutNoise.{not_false, sequence_left}
use Rattle.esc_account.proofs.sequence.is_left.Goals as goal

pub returns : goal.returns
returns g c = λ h l u limit b s gs each item.
    sequence_left u limit (g.P.Admit.admits c.args.policy.now) b l s gs c.args.segment.bytes.now
    each (sym item.kind ∙ c.is_csi.ensures c.if-not-is_csi.false) item.bytes
    (c.is_other.ensures h)
    (c.known.ensures.no_functions (not_false c.known.result.no_functions c.if-not-known.false))
