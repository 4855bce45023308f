use Rattle.std.proofs.Common.{◌≡◌, true, take, ap, subst, sym}
use Rattle.std.specs.List.{list_all}
use Rattle.esc_frame.proofs.ByteRuns.ManyBytes.{run_passes}
use Rattle.esc_frame.specs.Machine.Prefixes.{prefix_of}
use Rattle.esc_frame.specs.Scans.{is_text_byte}
use Rattle.esc_decode.proofs.Masks.{run_stays}
use Rattle.esc_decode.proofs.runs.stay_run.Goals as goal

pub returns-then-run-eq0-clause-stay : goal.returns-then-run-eq0-clause-stay
returns-then-run-eq0-clause-stay c = λ some.
    let bs = c.args.bytes.now in (
      ap prefix_of c.in-Nothing.is,
      run_stays (take c.ascii_run.result bs)
          (subst (λ k. list_all is_text_byte (take k bs) ≡ true) (sym c.ascii_run.ensures.run)
          (run_passes is_text_byte bs)),
    )
