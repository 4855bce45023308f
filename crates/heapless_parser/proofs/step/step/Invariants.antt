use Rattle.std.proofs.Common.{length}
use Rattle.heapless_parser.proofs.step.step.Given as goal

abbrev pub ghosts-step_in : goal.ghosts-step_in
ghosts-step_in a = record {
  kept = a.memory.ghost_name;
  room = length a.memory.now;
  out = a.out.ghost_name;
  place = length a.out.now;
  event = a.event.ghost_name;
}
