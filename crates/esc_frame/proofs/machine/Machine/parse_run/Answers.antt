use Rattle.std.proofs.Common.{rules}
use Rattle.esc_frame.proofs.machine.Machine.parse_run.Goals as goal

pub returns-then-is_ground : goal.returns-then-is_ground
returns-then-is_ground g c = record {
  took = λ u h.
      rw ((c.is_ground.ensures.known c.args.self.now.limit u h).0 c.if-is_ground.true)
      c.parse_in_ground.ensures.took;
  count = search rules;
}

pub returns-in-Escape : goal.returns-in-Escape
returns-in-Escape g c =
    record { took = c.parse_in_escape.ensures.took; count = c.parse_in_escape.ensures.count }

pub returns-in-Data : goal.returns-in-Data
returns-in-Data g c = record {
  took = c.parse_in_data.ensures.took;
  count = search rules;
}

pub returns-in-Ground : goal.returns-in-Ground
returns-in-Ground g c =
    record { took = c.parse_unfinished.ensures.took; count = c.parse_unfinished.ensures.count }

pub parse_in_ground-requires-clause-ground : goal.parse_in_ground-requires-clause-ground
parse_in_ground-requires-clause-ground g c = c.is_ground.ensures.ground c.if-is_ground.true
