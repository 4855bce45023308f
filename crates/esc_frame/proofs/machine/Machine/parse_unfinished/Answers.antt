use Rattle.std.proofs.Common.{rules, ap}
use Rattle.esc_frame.specs.declared.machine.State.TheVariants as state
use Rattle.esc_frame.specs.Machine.Prefixes.{prefix_of}
use Rattle.esc_frame.proofs.Steps.StateIsKnown.{known_in, osc_known}
use Rattle.esc_frame.proofs.machine.Machine.parse_unfinished.Goals as goal

pub returns-in-Csi : goal.returns-in-Csi
returns-in-Csi g c = record {
  took = c.parse_in_csi.ensures.took;
  quiet = c.parse_in_csi.ensures.quiet;
  count = search rules;
}

pub returns-in-Nothing : goal.returns-in-Nothing
returns-in-Nothing g c = record {
  took = λ u h.
      let i = osc_known g.K.TextRoom.keeps c.args.self.now.limit c.args.self.now u c.in-Osc.is
      (ap prefix_of c.in-Nothing.is) h in
      rw i.3 (c.parse_in_osc.ensures.took i.0 i.1 i.2.1);
  quiet = λ u h.
      let i = osc_known g.K.TextRoom.keeps c.args.self.now.limit c.args.self.now u c.in-Osc.is
      (ap prefix_of c.in-Nothing.is) h in
      rw i.3 (c.parse_in_osc.ensures.quiet i.0 i.1);
  count = search rules;
}

pub returns-in-Apc : goal.returns-in-Apc
returns-in-Apc g c = let limit = c.args.self.now.limit in record {
  took = λ u h.
      let i = known_in g.K.TextRoom.keeps limit c.args.self.now state.Apc u c.in-Apc.is h in
      rw i.3 (c.parse_in_apc.ensures.took i.0 i.1 i.2.1);
  quiet = λ u h.
      let i = known_in g.K.TextRoom.keeps limit c.args.self.now state.Apc u c.in-Apc.is h in
      rw i.3 (c.parse_in_apc.ensures.quiet i.0 i.1);
  count = search rules;
}

pub returns-in-Ignored : goal.returns-in-Ignored
returns-in-Ignored g c = record {
  took = c.parse_in_ignored.ensures.took;
  quiet = c.parse_in_ignored.ensures.quiet;
  count = search rules;
}
