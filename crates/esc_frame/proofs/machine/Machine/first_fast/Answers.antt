use Rattle.std.proofs.Common.{rules}
use Rattle.esc_frame.proofs.machine.Machine.first_fast.Goals as goal

pub returns-else-rest-eq27 : goal.returns-else-rest-eq27
returns-else-rest-eq27 g c = record {
  taken = record { ground = search rules; stays = c.print_first.ensures.stays };
  quiet = c.print_first.ensures.quiet;
}
