use Rattle.std.proofs.Common.{◌≡◌, length}
use Rattle.std.specs.List.{list_all}
use Rattle.esc_actions.specs.Texts.{has_text}
use Rattle.esc_actions.specs.Values.{value_of}
use Rattle.esc_write.proofs.runs.have_texts.Given as goal

abbrev pub invariant-eights : goal.invariant-eights
invariant-eights g l =
    list_all (λ a. has_text (value_of a)) l.actions ≡ list_all (λ a. has_text (value_of a)) l.rest

abbrev pub decreases-eights : goal.decreases-eights
decreases-eights g l = length l.rest
