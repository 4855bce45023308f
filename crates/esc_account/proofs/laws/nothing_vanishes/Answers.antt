use Rattle.std.proofs.Common.{Some}
use Rattle.esc_frame.specs.Segments.{bytes_of}
use Rattle.esc_segments.specs.Items.{kind_of}
use Rattle.esc_actions.specs.Readings.{reading_within}
use Rattle.esc_account.proofs.Fates.FateByPolicy.{nothing_told}
use Rattle.esc_account.proofs.laws.nothing_vanishes.Goals as goal

pub returns : goal.returns
returns g c = λ by_lines u limit admits b s finished e.
    nothing_told by_lines u admits b (kind_of s) (bytes_of s)
    (reading_within (Some limit) s finished) e
