-- A command that is weighed at once.
use Rattle.std.proofs.Common.{ℕ, ◌≡◌, Bool, true, false, ◌&&◌, ◌||◌, List, [], ◌∷◌, Option, None, refl, if◌then◌else◌}
use Rattle.std.specs.List.{FoldsTo}
use Rattle.esc_segments.specs.declared.kind.SegmentKind.{SegmentKind}
use Rattle.esc_osc.specs.Reading.{meaning as command_meant}
use Rattle.esc_osc.specs.declared.command.OperatingSystemCommand.{OperatingSystemCommand}
use Rattle.esc_actions.specs.Values.{Value, osc, value_of}
use Rattle.esc_actions.specs.declared.action.Action.TheVariants as action
use Rattle.esc_parse.specs.Given.{By}
use Rattle.esc_normal.proofs.Spelling.{IsCommand}
use Rattle.esc_filter.specs.declared.guard.Guard.{Guard}
use Rattle.esc_account.specs.Rules.{is_lone}
use Rattle.esc_account.specs.Weighed.{weighed_with}
use Rattle.esc_account.specs.Weighings.{Weighs}
use Rattle.esc_account.specs.declared.weighed.Weighed.{Weighed}
use Rattle.esc_account.specs.declared.weighing.Weighing.{Weighing}

abbrev pub with_command : Weighed → Bool → Weighed
with_command w t = record {
  has_own = true;
  writes_all = w.writes_all && t;
  shows_some = w.shows_some;
  last = if t then None else w.last;
}

no : (x : Bool) → (x && false) ≡ false
no true = refl
no false = refl

yes : (x : Bool) → (x && true) ≡ x
yes true = refl
yes false = refl

some : (x : Bool) → (x || true) ≡ true
some true = refl
some false = refl

none : (x : Bool) → (x || false) ≡ x
none true = refl
none false = refl

pub command_weighed : {A : Type 0} (l : Bool) (u : Guard) (admits : Value A → Bool) (b : Option ℕ)
    (k : SegmentKind) (c : OperatingSystemCommand A) (w : Weighed) (t : Bool)
    → admits (osc c) ≡ t → with_command w t ≡ weighed_with l u admits b k w (osc c)
command_weighed l u admits b k c w t a =
    rw (a, no l, yes t, none w.shows_some, some (is_lone k), some w.has_own) refl

pub command_taken : {P A : Type 0} (admits : P → Value A → Bool) (p q : Weighing P A)
    (ps : List (List ℕ)) → Weighs admits p (osc (command_meant {A = A} ps)) q
    → FoldsTo (By IsCommand (λ p a q. Weighs admits p (value_of a) q)) p (ps ∷ []) q
command_taken admits p q ps w =
    (q, (action.OperatingSystemCommand (command_meant ps), refl, w), refl)
