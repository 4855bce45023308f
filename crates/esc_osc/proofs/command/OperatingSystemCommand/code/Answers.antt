use Rattle.esc_osc.proofs.Under.{under}
use Rattle.esc_osc.proofs.command.OperatingSystemCommand.code.Goals as goal

pub returns-clause-under : goal.returns-clause-under
returns-clause-under g c = rw c.code_under.ensures.code (under c.args.self.now)
