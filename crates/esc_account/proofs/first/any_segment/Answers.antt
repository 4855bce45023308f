use Rattle.std.proofs.Common.{◌<◌, ◌≤◌, IfSome, length, subst}
use Rattle.esc_segments.specs.Items.{left_bytes}
use Rattle.esc_account.proofs.Entries.LineIsEntered.{first_some}
use Rattle.esc_account.proofs.first.any_segment.Goals as goal

pub returns-clause-some : goal.returns-clause-some
returns-clause-some c =
    let s = left_bytes c.new-segments.result in
    let k = c.has_cut.ensures s in
    subst (λ v. IfSome c.next.result
    (λ x. (0 < length x.bytes.now) × (length x.bytes.now ≤ length v))) c.new-segments.ensures
    (first_some _ _ s (left_bytes c.next.new.self) k.0 c.next.result (c.next.ensures.steps k.0 k.1)
    (c.next.ensures.goes.on tt))
