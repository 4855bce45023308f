use Rattle.esc_frame.proofs.machine.Machine.parse_osc_or_byte.Goals as goal

pub returns-else-rest-gt2 : goal.returns-else-rest-gt2
returns-else-rest-gt2 g c = c.parse_one_in_ground.ensures c.args.self.now.limit
