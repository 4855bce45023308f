use Rattle.std.proofs.Common.{Some}
use Rattle.esc_frame.specs.Segments.{bytes_of}
use Rattle.esc_segments.specs.Items.{kind_of}
use Rattle.esc_actions.specs.Readings.{reading_within}
use Rattle.esc_actions.specs.Texts.{list_text}
use Rattle.esc_account.proofs.Fates.FateByPolicy.{as_it_came, passed_is}
use Rattle.esc_account.proofs.laws.passed_as_it_came.Goals as goal

pub returns-clause-written : goal.returns-clause-written
returns-clause-written g c = λ by_lines u limit admits b s finished h.
    (passed_is by_lines u admits b (kind_of s) (bytes_of s) (reading_within (Some limit) s finished)
    h).0

pub returns-clause-text : goal.returns-clause-text
returns-clause-text g c = λ by_lines u limit admits b s finished h.
    let vs = reading_within (Some limit) s finished in
    as_it_came (bytes_of s) (list_text vs)
    (passed_is by_lines u admits b (kind_of s) (bytes_of s) vs h).1
