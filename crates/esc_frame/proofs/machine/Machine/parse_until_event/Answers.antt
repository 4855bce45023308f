use Rattle.std.proofs.Common.{rules}
use Rattle.esc_frame.proofs.machine.Machine.parse_until_event.Goals as goal

pub returns-then-is_ground : goal.returns-then-is_ground
returns-then-is_ground g c = let limit = c.args.self.now.limit in record {
  took = λ u h.
      rw ((c.is_ground.ensures.known limit u h).0 c.if-is_ground.true) c.first_in_ground.ensures.0;
  quiet = λ u h.
      rw ((c.is_ground.ensures.known limit u h).0 c.if-is_ground.true) c.first_in_ground.ensures.1;
  count = c.first_in_ground.ensures.2;
}

pub returns-in-Escape : goal.returns-in-Escape
returns-in-Escape g c = record {
  took = c.parse_in_escape.ensures.took;
  quiet = λ u h. c.parse_in_escape.ensures.quiet u;
  count = search rules;
}

pub first_in_ground-requires-clause-ground : goal.first_in_ground-requires-clause-ground
first_in_ground-requires-clause-ground g c = c.is_ground.ensures.ground c.if-is_ground.true
