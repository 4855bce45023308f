use Rattle.std.proofs.Common.{arith}
use Rattle.esc_sequences.proofs.Renditions.{several}
use Rattle.esc_sequences.proofs.csi.lone_rendition.Goals as goal

pub returns-else-item_len-params-clause-several : goal.returns-else-item_len-params-clause-several
returns-else-item_len-params-clause-several c =
    several c.args.params.now c.item_len.result c.item_len.ensures.first (omega arith)
