use Rattle.std.proofs.Common.{rules, take, sym, subst}
use Rattle.std.proofs.Math.Logic.{⊎_map}
use Rattle.esc_frame.specs.declared.machine.State.TheVariants as state
use Rattle.esc_frame.specs.Classes.{without_noise}
use Rattle.esc_frame.specs.Machine.Keeps.{KeepsBody}
use Rattle.esc_frame.proofs.ByteRuns.CsiRuns.{body_quiet, body_strip}
use Rattle.esc_frame.proofs.Emits.StopsAtFirstEvent.{body_run, body_still}
use Rattle.esc_frame.proofs.Steps.StateIsKnown.{known_in}
use Rattle.esc_frame.proofs.machine.Machine.parse_in_csi.Goals as goal

pub returns : goal.returns
returns g c =
    let limit = c.args.self.now.limit in
    let rest = c.args.rest.now in
    let run = c.push_run-run.result in
    let passes = c.push_run-run.ensures.run in record {
      took = λ u h.
          let i = known_in g.K.TextRoom.keeps limit c.args.self.now state.Csi u c.requires.state h
          in
          c.step_after.ensures.took u
          (rw (i.3, (body_quiet limit i.0 i.1 (take run rest) passes).0) (
            c.requires.state,
            subst (KeepsBody c.push_run-run.new.body) (sym (body_strip i.1 (take run rest) passes))
                (c.push_run-run.ensures.keeps (without_noise i.1) i.2.1),
          )) (rw i.3 (body_run limit i.0 i.1 rest run passes));
      quiet = λ u h.
          let i = known_in g.K.TextRoom.keeps limit c.args.self.now state.Csi u c.requires.state h
          in
          c.step_after.ensures.quiet u (rw i.3 (body_still limit i.0 i.1 rest run passes));
      count = search rules;
    }

pub step_after-requires-clause-ready : goal.step_after-requires-clause-ready
step_after-requires-clause-ready g c =
    let limit = c.args.self.now.limit in
    let rest = c.args.rest.now in
    let run = c.push_run-run.result in
    let passes = c.push_run-run.ensures.run in
    ⊎_map (λ r. r) (λ w.
    let i = known_in g.K.TextRoom.keeps limit c.args.self.now state.Csi w.0 c.requires.state w.1 in
    let q = body_quiet limit i.0 i.1 (take run rest) passes in (
      w.0,
      rw (i.3, q.0) (
        c.requires.state,
        subst (KeepsBody c.push_run-run.new.body) (sym (body_strip i.1 (take run rest) passes))
            (c.push_run-run.ensures.keeps (without_noise i.1) i.2.1),
      ),
      rw i.3 q.1,
      w.2,
    )) c.requires.ready
