use Rattle.std.proofs.Common.{◌∙◌}
use Rattle.esc_sixel.specs.Steps.{HasConsumed}
use Rattle.esc_sixel.proofs.Bytes.BytesThatTakeMemory.{finish_wants}
use Rattle.esc_sixel.proofs.Bytes.OneByteMore.{on_ok, finished}
use Rattle.esc_sixel.proofs.builder.SixelBuilder.finish.Goals as goal

pub returns-clause-ok : goal.returns-clause-ok
unfolding HasConsumed
returns-clause-ok g c =
    λ ps s h. on_ok c.push.result (λ d. (d, d.0 ∙ finished ps s)) (c.push.ensures.ok ps s h)

pub returns-clause-asks : goal.returns-clause-asks
returns-clause-asks g c = finish_wants c.args.self.now.introducer c.push.result c.push.ensures.asks
