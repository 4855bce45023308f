-- A byte breaks off a sequence or a string, or is a character or a control in ground.
use Rattle.std.proofs.Common.{ℕ, ◌≡◌, Bool, true, ◌||◌, List, [], ◌∷◌, Option, Result, if◌then◌else◌, refl, ap, sym, subst}
use Rattle.esc_frame.specs.declared.classes.Class.{Class}
use Rattle.esc_frame.specs.declared.classes.Class.TheVariants.{C0, Bell, Breaks}
use Rattle.esc_frame.specs.declared.classes.Breaker.TheVariants.{Cancel, C1}
use Rattle.esc_frame.specs.declared.machine.Machine.{Machine}
use Rattle.esc_frame.specs.Classes.{is_breaker, is_text, is_control, is_c1}
use Rattle.esc_frame.specs.Events.{Event, Receives}
use Rattle.esc_frame.specs.Events.Event.{Print, Execute}
use Rattle.esc_frame.specs.Leads.{Unfinished, Holds}
use Rattle.esc_frame.specs.Leads.Unfinished.{Ground}
use Rattle.esc_frame.specs.Machine.Calls.{Moved}
use Rattle.esc_frame.specs.Machine.Moves.{emitting, leaving, begins, ground_move, goes_on, move_inside}
use Rattle.esc_frame.proofs.Emits.EventsFold.{receives_moved}

module _ {K A S E : Type 0} (keeps : Option ℕ → K → List ℕ → Type 0) (may_fail : Option ℕ → Type 0)
    (limit : Option ℕ) (own : Bool) (takes refuses : S → Event → S → Type 0)
    (result : Result (Unit {0}) E) (u : Unfinished) (b : ℕ) (class : Class) (m : Machine K A)
    (old new : S) (so : is_breaker class ≡ true) where
  -- it comes after the events of the string
  pub broken_emitted : Moved keeps may_fail limit own takes refuses result
      (emitting (leaving limit u) (ground_move b class)) m old new
      → Moved keeps may_fail limit own takes refuses result (move_inside limit u b class) m old new
  broken_emitted h =
      subst (λ v. Moved keeps may_fail limit own takes refuses result v m old new)
      (sym (ap (λ t. if t then emitting (leaving limit u) (ground_move b class) else goes_on limit u
      b class) so)) h

  -- where it emits nothing
  pub broken : leaving limit u ≡ []
      → Moved keeps may_fail limit own takes refuses result (ground_move b class) m old new
      → Moved keeps may_fail limit own takes refuses result (move_inside limit u b class) m old new
  broken none h =
      broken_emitted (subst (λ es. Moved keeps may_fail limit own takes refuses result
      (emitting es (ground_move b class)) m old new) (sym none) h)

-- ---- in ground

text_move : (b : ℕ) (class : Class) → is_text class ≡ true
    → ground_move b class ≡ (Ground, Print b ∷ [])
text_move b class h =
    ap (λ t. if t then (Ground, Print b ∷ []) else if is_control class
    || is_c1 class then (Ground, Execute b ∷ []) else begins b class) h

control_move : (b : ℕ) (class : Class) → (is_control class || is_c1 class) ≡ true
    → ground_move b class ≡ (Ground, Execute b ∷ [])
control_move b C0 h = refl
control_move b Bell h = refl
control_move b (Breaks Cancel) h = refl
control_move b (Breaks C1) h = refl
control_move b _ h = absurd cc

module _ {K A S E : Type 0} (keeps : Option ℕ → K → List ℕ → Type 0) (may_fail : Option ℕ → Type 0)
    (limit : Option ℕ) (own : Bool) (takes refuses : S → Event → S → Type 0)
    (result : Result (Unit {0}) E) (b : ℕ) (class : Class) (m : Machine K A) (old new : S)
    (so : Holds keeps limit m Ground) where
  pub text_moved : is_text class ≡ true → Receives takes refuses result old (Print b) new
      → Moved keeps may_fail limit own takes refuses result (ground_move b class) m old new
  text_moved t h =
      subst (λ v. Moved keeps may_fail limit own takes refuses result v m old new)
      (sym (text_move b class t))
      (receives_moved keeps may_fail limit own takes refuses result Ground (Print b) m old new so h)

  pub control_moved : (is_control class || is_c1 class) ≡ true
      → Receives takes refuses result old (Execute b) new
      → Moved keeps may_fail limit own takes refuses result (ground_move b class) m old new
  control_moved t h =
      subst (λ v. Moved keeps may_fail limit own takes refuses result v m old new)
      (sym (control_move b class t))
      (receives_moved keeps may_fail limit own takes refuses result Ground (Execute b) m old new so
      h)
