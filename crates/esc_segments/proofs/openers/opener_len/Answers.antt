use Rattle.esc_segments.proofs.Beginnings.{escape_len}
use Rattle.esc_segments.proofs.openers.opener_len.Goals as goal

pub returns-in-27-clause-len : goal.returns-in-27-clause-len
returns-in-27-clause-len c = escape_len c.args.bytes.now c.escape_opener_len.result c.in-27.is
    c.escape_opener_len.ensures.len
