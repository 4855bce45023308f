use Rattle.std.proofs.Common.{sym, ◌∙◌, arith}
use Rattle.esc_segments.proofs.Sequences.{two_broken, two_whole, two_high, two_control}
use Rattle.esc_segments.proofs.sequence.of_two.Goals as goal

pub returns-then-not-lies_from : goal.returns-then-not-lies_from
returns-then-not-lies_from c =
    let r = c.requires in
    two_broken c.args.bytes.now r.some r.low r.high (sym c.lies_from.ensures
    ∙ c.if-not-lies_from.true)

pub returns-then-bytes : goal.returns-then-bytes
returns-then-bytes c =
    let r = c.requires in
    two_whole c.args.bytes.now r.some r.low r.high (sym c.lies_from.ensures
    ∙ c.if-not-lies_from.false) c.if-bytes.true

pub returns-then-bytes-le159 : goal.returns-then-bytes-le159
returns-then-bytes-le159 c =
    let r = c.requires in
    two_control c.args.bytes.now r.some (sym c.lies_from.ensures ∙ c.if-not-lies_from.false)
    (omega arith) (omega arith)

pub returns-else-bytes-le159 : goal.returns-else-bytes-le159
returns-else-bytes-le159 c =
    let r = c.requires in
    two_high c.args.bytes.now r.some r.low r.high (sym c.lies_from.ensures
    ∙ c.if-not-lies_from.false) (omega arith)
