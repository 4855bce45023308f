use Rattle.esc_actions.specs.Values.{print, value_of}
use Rattle.esc_write.proofs.ActionRuns.{more_seen}
use Rattle.esc_write.proofs.runs.gather_eights.Goals as goal

pub eights-preserved : goal.eights-preserved
eights-preserved g c =
    more_seen value_of print c.args.actions.now c.eights.rest.now _ c.eights.run c.in-Some.eight _
    c.eights.invariant c.in-Some.ensures.same c.push_eight.ensures c.split_at.ensures.back
