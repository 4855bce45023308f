use Rattle.std.proofs.Common.{◌≡◌, [], length}
use Rattle.esc_links.specs.Hyperlinks.{put_all}
use Rattle.flat_values.specs.Found.{held_form, parameters}
use Rattle.flat_values.proofs.read_link.params.Given as goal

abbrev pub invariant-loop-rest : goal.invariant-loop-rest
invariant-loop-rest l = put_all [] (parameters held_form l.fields)
    ≡ put_all l.params (parameters held_form l.rest)

abbrev pub decreases-loop-rest : goal.decreases-loop-rest
decreases-loop-rest l = length l.rest
