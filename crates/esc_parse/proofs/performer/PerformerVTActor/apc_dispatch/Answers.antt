use Rattle.std.proofs.Common.{◌≡◌, refl, true}
use Rattle.esc_actions.specs.Values.{value_of}
use Rattle.esc_parse.specs.Given.{At}
use Rattle.esc_parse.proofs.Data.ImagesLeaveSink.{all_dropped, command_images}
use Rattle.esc_parse.proofs.Lists.StepsOverLists.{StopsAt-here}
use Rattle.fallible_alloc.specs.Refusals.{Refused}
use Rattle.esc_parse.proofs.performer.PerformerVTActor.apc_dispatch.Goals as goal

pub returns-then-drops_images-clause-receives : goal.returns-then-drops_images-clause-receives
returns-then-drops_images-clause-receives g c = λ limit m h. (
  h,
  all_dropped g.S.Sink.takes c.args.self.now.sink (c.drops_images.ensures c.if-drops_images.true) _
      (command_images _),
)

pub returns-in-Err-clause-receives : goal.returns-in-Err-clause-receives
returns-in-Err-clause-receives g c = λ limit m h.
    StopsAt-here (At value_of g.S.Sink.takes) (At value_of g.S.Sink.refuses)
    ((true ≡ true) × Refused g.row.A.Denot)
    c.args.self.now.sink _ _ (refl, c.in-Err.ensures.refused) refl
