-- The events of one segment that the call for its kind gives the actor.
use Rattle.std.proofs.Common.{◌≡◌, true, ℕ, List, Result}
use Rattle.esc_frame.specs.Events.{Event, Takes}
use Rattle.esc_frame.specs.Memory.{may_grow}
use Rattle.esc_frame.specs.Segments.{HasShape, Segment, events_of}
use Rattle.esc_frame.proofs.Emits.EventsFold.{takes_for}
use Rattle.esc_segments.specs.Items.{IsItem}
use Rattle.esc_segments.specs.declared.item.Segment.{Segment as Item}
use Rattle.esc_segments.proofs.Emitted.{takes_by}

-- its events, if the item is this segment; `denied` says that memory was refused
pub record IsGiven {S E : Type 0} (denied : Type 0) (takes refuses : S → Event → S → Type 0)
    (item : Item) (after : List ℕ) (result : Result (Unit {0}) E) (old new : S)
    (s : Segment) : Type 0 where
  pub so : HasShape s after → IsItem item s after
      → Takes ((may_grow s ≡ true) × denied) takes refuses result old
      (events_of s item.finished) new

module _ {S E : Type 0} {denied : Type 0} {takes refuses : S → Event → S → Type 0} {item : Item}
    {after : List ℕ} {result : Result (Unit {0}) E} {old new : S} where
  -- by a call that asks for no memory
  pub plainly : (s : Segment) → (HasShape s after → IsItem item s after
      → Takes ⊥ takes refuses result old (events_of s item.finished) new)
      → IsGiven denied takes refuses item after result old new s
  plainly s w = record {
    so = λ h i. takes_by ((may_grow s ≡ true) × denied) takes refuses result
        (events_of s item.finished) old new (w h i);
  }

  -- by one that asks for some
  pub with_memory : (s : Segment) → may_grow s ≡ true → (HasShape s after → IsItem item s after
      → Takes denied takes refuses result old (events_of s item.finished) new)
      → IsGiven denied takes refuses item after result old new s
  with_memory s m w = record {
    so = λ h i. takes_for denied ((may_grow s ≡ true) × denied) takes refuses result old new
        (events_of s item.finished) (λ r. (m, r)) (w h i);
  }
