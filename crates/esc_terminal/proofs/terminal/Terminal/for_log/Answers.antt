use Rattle.std.proofs.Common.{true, ap, ◌∙◌}
use Rattle.esc_screen.specs.Grids.{Size}
use Rattle.esc_terminal.specs.Fed.{for_log}
use Rattle.esc_terminal.proofs.Streams.{shows_first}
use Rattle.esc_terminal.proofs.terminal.Terminal.for_log.Goals as goal

abbrev as_log : Size → Size
as_log z = record z { returns = true }

pub returns-clause-fed : goal.returns-clause-fed
returns-clause-fed g c =
    let k = c.in_ok-state.ensures in
    let r = c.returning.ensures in
    record {
      parser = c.with_limit.ensures;
      state = shows_first (for_log c.args.columns c.args.rows) _ (r.grid ∙ k.grid)
          (r.size ∙ ap as_log k.size) (r.known.0 ∙ k.known.0)
          (r.known.1 ∙ k.known.1);
    }
