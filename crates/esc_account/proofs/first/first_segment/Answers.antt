use Rattle.esc_account.proofs.AtOnce.SeenIsFirst.{head_seen, seen_few}
use Rattle.esc_account.proofs.first.first_segment.Goals as goal

pub returns-in-Some-clause-first : goal.returns-in-Some-clause-first
returns-in-Some-clause-first c = λ gs cut.
    head_seen c.has_cut.ensures c.one_cut.ensures c.args.bytes.now c.in-Some.segment
    c.in-Some.ensures gs cut

pub returns-in-Some-clause-some : goal.returns-in-Some-clause-some
returns-in-Some-clause-some c = seen_few c.args.bytes.now c.in-Some.segment c.in-Some.ensures
