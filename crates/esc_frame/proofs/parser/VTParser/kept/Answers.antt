use Rattle.std.proofs.Common.{min, ap, sym, ◌∙◌}
use Rattle.esc_frame.specs.Counts.{kept_of_cut}
use Rattle.esc_frame.specs.Limits.{most}
use Rattle.esc_frame.specs.Leads.Unfinished.{Ground}
use Rattle.esc_frame.specs.Machine.Moves.{after_all}
use Rattle.esc_frame.specs.Stream.{HasConsumedWithin}
use Rattle.esc_frame.proofs.Limit.KeptWithinLimit.{kept_is, kept_fits}
use Rattle.esc_frame.proofs.parser.VTParser.kept.Goals as goal

pub returns-else-self-clause-given : goal.returns-else-self-clause-given
unfolding HasConsumedWithin
returns-else-self-clause-given g c = λ limit s (f, i, h) gs cut.
    c.kept.ensures c.args.self.now.machine.limit (after_all Ground s) h
    ∙ ap (λ n. min n most) (sym (kept_is c.args.self.now.machine.limit s gs cut)
    ∙ ap (λ l. kept_of_cut l gs) i)

pub returns-else-self-clause-within : goal.returns-else-self-clause-within
unfolding HasConsumedWithin
returns-else-self-clause-within g c =
    λ limit s (f, i, h). kept_fits c.args.self.now.machine.limit limit i (after_all Ground s) _
    (c.kept.ensures c.args.self.now.machine.limit (after_all Ground s) h)
