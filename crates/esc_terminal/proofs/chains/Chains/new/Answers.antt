use Rattle.esc_terminal.proofs.Chained.{none_chained}
use Rattle.esc_terminal.proofs.chains.Chains.new.Goals as goal

pub invariant_of-result : goal.invariant_of-result
invariant_of-result g c =
    none_chained c.in_ok-copied.field-0.items c.new.result.items c.in_ok-copied.ensures.ok
    c.new.ensures.items
