-- A parser keeps nothing of finished segments.
use Rattle.std.proofs.Common.{ℕ, Option, List, subst}
use Rattle.esc_frame.specs.Stream.{IsAfterFinished}
use Rattle.esc_frame.proofs.Emits.FinishedIsForgotten.{unfinished_alone as framer_alone}
use Rattle.esc_actions.proofs.Meaning.FinishedHasNoEffect.{mode_alone}
use Rattle.esc_parse.specs.Fed.{Hooks, ParserHasConsumedWithin}
use Rattle.esc_parse.specs.declared.parser.Parser.{Parser}

pub unfinished_alone : {A : Type 0} (limit : Option ℕ) (s u : List ℕ) (p : Parser A)
    → IsAfterFinished s u → ParserHasConsumedWithin limit s p → ParserHasConsumedWithin limit u p
unfolding ParserHasConsumedWithin
unfinished_alone limit s u p after (framer, hooks) = (
  framer_alone limit s u p.framer after framer,
  subst (λ m. Hooks limit p.unfinished m) (mode_alone limit s u after) hooks,
)
