use Rattle.std.proofs.Common.{rules, take, refl}
use Rattle.esc_frame.proofs.ByteRuns.QuietRuns.{quiet_folds}
use Rattle.esc_frame.proofs.ByteRuns.StringRuns.{skip_holds, prefix_passes}
use Rattle.esc_frame.proofs.Steps.StateIsKnown.{skip_fresh}
use Rattle.esc_frame.proofs.Emits.StopsAtFirstEvent.{skip_still}
use Rattle.esc_frame.proofs.machine.Machine.parse_in_ignored.Goals as goal

pub returns : goal.returns
returns g c = record {
  took = λ u h.
      let q = skip_holds g.K.TextRoom.keeps c.args.self.now.limit c.args.self.now
      (take c.ascii_run-run.result c.args.rest.now)
      (prefix_passes c.args.rest.now c.ascii_run-run.result c.ascii_run-run.ensures.run) u
      c.requires.state h in (
        q.0,
        quiet_folds g.V.EventSink.takes _ c.args.actor.now q.1,
        skip_fresh g.K.TextRoom.keeps c.args.self.now.limit c.args.self.now u c.args.rest.now
            c.ascii_run-run.result c.requires.state h,
      );
  quiet = λ u h.
      skip_still g.K.TextRoom.keeps c.args.self.now.limit c.args.self.now u c.args.rest.now
      c.ascii_run-run.result
      c.ascii_run-run.ensures.run h c.requires.state;
  count = search rules;
}

pub parse_one-requires-clause-between : goal.parse_one-requires-clause-between
parse_one-requires-clause-between g c = rw c.requires.state refl
