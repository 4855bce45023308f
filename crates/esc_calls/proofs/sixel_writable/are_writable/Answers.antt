use Rattle.std.proofs.Common.{sym, ◌∙◌}
use Rattle.std.proofs.lemmas.Bool.{true≢false}
use Rattle.esc_calls.proofs.SixelsWritten.{item_unwritable, item_writable}
use Rattle.esc_calls.proofs.sixel_writable.are_writable.Goals as goal

pub returns-then-not-is_writable_item : goal.returns-then-not-is_writable_item
returns-then-not-is_writable_item c = (
  λ h. absurd (true≢false (sym h)),
  λ h. absurd (item_unwritable c.args.items.now c.loop-item.item-index c.item-item.result
      c.loop-item-test.true c.item-item.is c.loop-item.invariant
      (λ writable. true≢false (sym (c.is_writable_item.ensures.1 writable)
      ∙ c.if-not-is_writable_item.true)) h),
)

pub loop-item-preserved : goal.loop-item-preserved
loop-item-preserved c =
    item_writable c.args.items.now c.loop-item.item-index c.item-item.result
    c.loop-item-test.true c.item-item.is c.loop-item.invariant
    (c.is_writable_item.ensures.0 c.if-not-is_writable_item.false)
