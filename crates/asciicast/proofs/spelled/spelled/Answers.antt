use Rattle.std.proofs.lemmas.Str.{IsUtf8-past_char}
use Rattle.asciicast.proofs.Controls.{spelled_end, spelled_step}
use Rattle.asciicast.proofs.spelled.spelled.Goals as goal

pub loop-c-preserved : goal.loop-c-preserved
loop-c-preserved g c =
    let held = c.loop-c.invariant in
    let parts = c.in-Some.ensures.steps.0 in (
      IsUtf8-past_char _ _ c.in-Some.c held.0 parts,
      rw c.in_ok-push_spelled.ensures
          (spelled_step c.in-Some.c _ _ _ _ held.0 parts held.1),
    )

pub returns : goal.returns
returns g c =
    spelled_end _ _ _ c.in-None.ensures.steps.0.0 c.loop-c.invariant.1
