use Rattle.std.proofs.Common.{rules}
use Rattle.esc_frame.proofs.machine.Machine.parse_fast.Goals as goal

pub returns-then-rest-ge32 : goal.returns-then-rest-ge32
returns-then-rest-ge32 g c = record {
  ground = search rules;
  stays = c.print_one.ensures;
}

pub returns-else-rest-eq27 : goal.returns-else-rest-eq27
returns-else-rest-eq27 g c = record {
  ground = search rules;
  stays = c.execute_one.ensures;
}

pub returns-then-rest-eq27 : goal.returns-then-rest-eq27
returns-then-rest-eq27 g c = record {
  ground = c.parse_short_csi.ensures.taken.ground;
  stays = c.parse_short_csi.ensures.taken.stays;
}
