use Rattle.std.proofs.Common.{Some, ◌++◌, ap, ◌∙◌}
use Rattle.esc_frame.specs.Segments.{is_finished, joined_bytes}
use Rattle.esc_actions.specs.Readings.{reading_within}
use Rattle.esc_actions.specs.Texts.{texts_after}
use Rattle.esc_normal.proofs.Spelling.{spells}
use Rattle.esc_account.proofs.reading.text_at_once.Goals as goal

pub returns-in-Ok : goal.returns-in-Ok
returns-in-Ok g c = λ s gs each item.
    let empty = c.new.result in
    let finished = is_finished s (joined_bytes gs) in
    let all = reading_within {A = g.row.A.Denot} (Some c.args.limit) s finished in
    spells empty all _ (c.in-Ok.ensures s gs each item)
    ∙ ap (λ t. t ++ texts_after empty.follows_string all) c.new.ensures.text
    ∙ ap (λ b. texts_after b all) c.new.ensures.plain
