use Rattle.std.proofs.Common.{sym, ◌∙◌, arith}
use Rattle.esc_segments.proofs.Sequences.{three_pending, four_whole, four_broken}
use Rattle.esc_segments.proofs.sequence.of_four.Goals as goal

pub returns-then-bytes-eq3 : goal.returns-then-bytes-eq3
returns-then-bytes-eq3 c = let r = c.requires in
    three_pending c.args.bytes.now (omega arith) r.lead.low r.lead.high r.second r.third

pub returns-then-lies_from : goal.returns-then-lies_from
returns-then-lies_from c =
    let r = c.requires in
    four_whole c.args.bytes.now (omega arith) r.lead.low r.lead.high r.second r.third
    (sym c.lies_from.ensures ∙ c.if-lies_from.true)

pub returns-else-lies_from : goal.returns-else-lies_from
returns-else-lies_from c =
    let r = c.requires in
    four_broken c.args.bytes.now (omega arith) r.lead.low r.lead.high r.second r.third
    (sym c.lies_from.ensures ∙ c.if-lies_from.false)
