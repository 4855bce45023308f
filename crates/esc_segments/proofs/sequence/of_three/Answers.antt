use Rattle.std.proofs.Common.{sym, ◌∙◌, arith}
use Rattle.esc_segments.proofs.Sequences.{two_pending, three_whole, three_broken}
use Rattle.esc_segments.proofs.sequence.of_three.Goals as goal

pub returns-then-bytes-eq2 : goal.returns-then-bytes-eq2
returns-then-bytes-eq2 c = let r = c.requires in
    two_pending c.args.bytes.now (omega arith) r.lead.low r.lead.high r.second

pub returns-then-not-lies_from : goal.returns-then-not-lies_from
returns-then-not-lies_from c =
    let r = c.requires in
    three_broken c.args.bytes.now (omega arith) r.lead.low r.lead.high r.second
    (sym c.lies_from.ensures ∙ c.if-not-lies_from.true)

pub returns-then-bytes-lt240 : goal.returns-then-bytes-lt240
returns-then-bytes-lt240 c =
    let r = c.requires in
    three_whole c.args.bytes.now (omega arith) r.lead.low (omega arith) r.second
    (sym c.lies_from.ensures ∙ c.if-not-lies_from.false)
