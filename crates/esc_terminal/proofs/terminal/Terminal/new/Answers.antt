use Rattle.esc_terminal.specs.Fed.{screen_size}
use Rattle.esc_terminal.proofs.Streams.{shows_first}
use Rattle.esc_terminal.proofs.terminal.Terminal.new.Goals as goal

pub returns-clause-fed : goal.returns-clause-fed
returns-clause-fed g c =
    let k = c.in_ok-state.ensures in
    record {
      parser = c.with_limit.ensures;
      state = shows_first (screen_size c.args.columns c.args.rows) _ k.grid k.size k.known.0
          k.known.1;
    }
