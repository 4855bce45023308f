use Rattle.heapless_parser.proofs.InChunks.OneByteLater.{opener_passes}
use Rattle.heapless_parser.proofs.escapes.open_after.Goals as goal

pub returns-clause-passes : goal.returns-clause-passes
returns-clause-passes c =
    opener_passes c.args.parser.now c.open_kind.new.parser c.args.byte c.args.kind
    c.requires.state c.requires.first c.requires.class c.open_kind.ensures.opened
