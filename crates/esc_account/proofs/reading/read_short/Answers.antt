use Rattle.std.proofs.Common.{Some, map, ◌++◌, ap, ◌∙◌}
use Rattle.esc_frame.specs.Segments.{is_finished, joined_bytes}
use Rattle.esc_actions.specs.Readings.{reading_within}
use Rattle.esc_actions.specs.Values.{value_of}
use Rattle.esc_account.specs.Brief.{brief}
use Rattle.esc_account.proofs.Fates.BriefsKeepActions.{keeps}
use Rattle.esc_account.proofs.reading.read_short.Goals as goal

pub returns-in-Ok : goal.returns-in-Ok
returns-in-Ok g c = λ s gs each item.
    let reading = reading_within (Some c.args.limit) s (is_finished s (joined_bytes gs)) in
    keeps reading _ _ (c.in-Ok.ensures s gs each item)
    ∙ ap (λ l. map value_of l ++ brief reading) c.new.ensures.items
