use Rattle.std.proofs.Common.{Some, map, ◌++◌, refl, ap, ◌∙◌}
use Rattle.esc_frame.specs.Segments.{is_finished, joined_bytes}
use Rattle.esc_actions.specs.Readings.{reading_within}
use Rattle.esc_actions.specs.Values.{value_of}
use Rattle.esc_account.specs.Brief.{brief}
use Rattle.esc_account.proofs.Fates.BriefsKeepActions.{keeps, keeps_handed_out}
use Rattle.esc_account.proofs.reading.read_segment.Goals as goal

pub returns-in-Ok-clause-given : goal.returns-in-Ok-clause-given
returns-in-Ok-clause-given g c = λ s gs each item.
    let reading = reading_within (Some c.args.limit) s (is_finished s (joined_bytes gs)) in
    keeps reading _ _ (c.in-Ok.ensures.given s gs each item)
    ∙ ap (λ l. map value_of l ++ brief reading) c.new.ensures.items

pub returns-in-Ok-clause-handed_out : goal.returns-in-Ok-clause-handed_out
returns-in-Ok-clause-handed_out g c =
    keeps_handed_out _ _ c.new.ensures.items refl c.in-Ok.ensures.handed_out

pub returns-in-Err-clause-refused : goal.returns-in-Err-clause-refused
returns-in-Err-clause-refused g c = c.in-Err.ensures.refused (λ p a q w. w)
