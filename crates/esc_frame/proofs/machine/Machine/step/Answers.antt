use Rattle.std.proofs.Common.{ap, false}
use Rattle.esc_frame.specs.declared.machine.State.TheVariants as state
use Rattle.esc_frame.specs.Machine.Prefixes.{prefix_of}
use Rattle.esc_frame.proofs.Steps.StateIsKnown.{known_in, ground_known, osc_known}
use Rattle.esc_frame.proofs.machine.Machine.step.Goals as goal

pub returns-in-Nothing-clause-moved : goal.returns-in-Nothing-clause-moved
returns-in-Nothing-clause-moved g c = λ e u h.
    rw (ground_known g.K.TextRoom.keeps c.args.self.now.limit c.args.self.now u c.in-Ground.is
    (ap prefix_of c.in-Nothing.is) h) (c.in_ground.ensures.moved c.args.self.now.limit false)

pub returns-in-Nothing-pending-clause-moved : goal.returns-in-Nothing-pending-clause-moved
returns-in-Nothing-pending-clause-moved g c = λ e u h.
    let i = osc_known g.K.TextRoom.keeps c.args.self.now.limit c.args.self.now u c.in-Osc.is
    (ap prefix_of c.in-Nothing-pending.is) h in
    rw i.3 (c.in_osc.ensures.moved e i.0 i.1 i.2.1)

pub returns-in-Escape-clause-moved : goal.returns-in-Escape-clause-moved
returns-in-Escape-clause-moved g c = λ e u h.
    let limit = c.args.self.now.limit in
    let i = known_in g.K.TextRoom.keeps limit c.args.self.now state.Escape u c.in-Escape.is h in
    rw i.2 (c.in_escape.ensures.moved e limit false i.0 i.1.1)

pub returns-in-Csi-clause-moved : goal.returns-in-Csi-clause-moved
returns-in-Csi-clause-moved g c = λ e u h.
    let limit = c.args.self.now.limit in
    let i = known_in g.K.TextRoom.keeps limit c.args.self.now state.Csi u c.in-Csi.is h in
    rw i.3 (c.in_csi.ensures.moved e limit i.0 i.1 i.2.1)

pub returns-in-Dcs-clause-moved : goal.returns-in-Dcs-clause-moved
returns-in-Dcs-clause-moved g c = λ e u h.
    let limit = c.args.self.now.limit in
    let i = known_in g.K.TextRoom.keeps limit c.args.self.now state.Dcs u c.in-Dcs.is h in
    rw i.3 (c.in_dcs.ensures.moved e i.0 i.1 i.2.1 i.2.2)

pub returns-in-Apc-clause-moved : goal.returns-in-Apc-clause-moved
returns-in-Apc-clause-moved g c = λ e u h.
    let limit = c.args.self.now.limit in
    let i = known_in g.K.TextRoom.keeps limit c.args.self.now state.Apc u c.in-Apc.is h in
    rw i.3 (c.in_apc.ensures.moved e i.0 i.1 i.2.1)
