use Rattle.esc_decode.proofs.Blocks.{block_ascii}
use Rattle.esc_decode.proofs.ascii.is_ascii_block.Goals as goal

pub returns : goal.returns
returns c = λ h.
    let all = c.either.ensures (c.is_ascii.ensures h) in
    let first = c.either-first.ensures all.0 in
    let second = c.either-second.ensures all.1 in
    block_ascii c.args.block.now c.requires first.0 first.1 second.0 second.1
