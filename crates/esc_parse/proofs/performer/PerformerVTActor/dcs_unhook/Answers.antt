use Rattle.esc_parse.proofs.Data.ImagesLeaveSink.{all_dropped}
use Rattle.esc_parse.proofs.performer.PerformerVTActor.dcs_unhook.Goals as goal

pub returns-then-is_sixel-clause-receives : goal.returns-then-is_sixel-clause-receives
returns-then-is_sixel-clause-receives g c = λ limit m h. (
  c.clear.ensures limit m h,
  all_dropped g.S.Sink.takes c.args.self.now.sink (c.drops_images.ensures c.if-drops_images.true) _
      (c.is_sixel.ensures c.if-is_sixel.true limit m h),
)
