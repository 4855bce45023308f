use Rattle.std.proofs.Common.{take}
use Rattle.esc_account.proofs.Fates.RenditionsPass.{rendition_passes}
use Rattle.esc_account.proofs.rendition.passed_rendition.Goals as goal

pub returns-then-known-clause-passed : goal.returns-then-known-clause-passed
returns-then-known-clause-passed g c = λ some l u limit.
    let n = c.rendition_length.result in
    let k = c.rendition_length.ensures.short some in
    rendition_passes l u limit (g.P.Admit.admits c.args.policy.now)
    (c.known.ensures.renditions c.if-known.true) (take n c.args.bytes.now) k.0 k.1
