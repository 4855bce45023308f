use Rattle.esc_actions.proofs.Values.CodesHaveNumbers.{code_of_from}
use Rattle.esc_actions.proofs.control_code.ControlCode.from_byte.Goals as goal

pub returns : goal.returns
returns c = code_of_from c.args.byte c.numbered.result c.numbered.ensures
