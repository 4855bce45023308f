use Rattle.std.proofs.Common.{refl}
use Rattle.std.proofs.Math.Logic.{⊎_map}
use Rattle.esc_frame.proofs.Emits.StopsAtFirstEvent.{one_run, one_still}
use Rattle.esc_frame.proofs.Steps.StateIsKnown.{no_string}
use Rattle.esc_frame.proofs.machine.Machine.parse_one.Goals as goal

pub returns : goal.returns
returns g c = record {
  took = λ u h.
      c.step_after.ensures.took u h (one_run c.args.self.now.limit u c.args.rest.now
      (no_string g.K.TextRoom.keeps c.args.self.now.limit c.args.self.now u h c.requires.between));
  quiet = λ u. c.step_after.ensures.quiet u (one_still c.args.self.now.limit u c.args.rest.now);
  count = c.step_after.ensures.count;
}

pub step_after-requires-clause-ready : goal.step_after-requires-clause-ready
step_after-requires-clause-ready g c =
    ⊎_map (λ r. r) (λ w. (w.0, w.1, refl, w.2)) c.requires.ready
