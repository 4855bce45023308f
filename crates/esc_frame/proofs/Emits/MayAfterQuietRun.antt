-- An actor may be given these events after a run that emits nothing.
use Rattle.std.proofs.Common.{ℕ, ◌≡◌, ◌+◌, ◌-◌, ◌<◌, List, [], length, take, drop, get_or, Option}
use Rattle.esc_frame.specs.declared.classes.Class.{Class}
use Rattle.esc_frame.specs.Classes.{class_of}
use Rattle.esc_frame.specs.Events.{Event, Awaits}
use Rattle.esc_frame.specs.Leads.{Unfinished}
use Rattle.esc_frame.specs.Machine.Moves.{move, after_all, events_all}
use Rattle.esc_frame.proofs.Emits.MayInGround.{cut_first, cut_rest}
use Rattle.esc_frame.proofs.ByteRuns.QuietRuns.{quiet_events, quiet_folds}

module _ {S : Type 0} (may : S → Event → Type 0) (takes : S → Event → S → Type 0) (limit : Option ℕ)
    (u v : Unfinished) (rest : List ℕ) (n : ℕ) (old : S)
    (run : (after_all u (take n rest) ≡ v) × (events_all limit u (take n rest) ≡ [])) where
  -- the events of the byte after it
  pub next_awaited : {c : Class} → n < length rest → c ≡ class_of (get_or rest n 0)
      → Awaits may takes old (events_all limit u rest)
      → Awaits may takes old (move limit v (get_or rest n 0) c).1
  next_awaited {c} room e =
      cut_first may takes rest (n + 1) limit u _ old
      (quiet_events limit takes takes u v rest n c old old run room e)

  -- those of all that follow
  pub rest_awaited : Awaits may takes old (events_all limit u rest)
      → Awaits may takes old (events_all limit v (take (length rest - n) (drop n rest)))
  rest_awaited = cut_rest may takes rest n limit u v old old run.0 (quiet_folds takes _ old run.1)
