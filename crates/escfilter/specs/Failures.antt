-- The streams that are a failure.
use Rattle.std.specs.Prelude.{ℕ, ◌≡◌, ◌<◌, ◌==◌, ◌&&◌, ◌||◌, nat_lt, Bool, true, false, if◌then◌else◌, List}
use Rattle.std.specs.List.{list_any}
use Rattle.esc_account.specs.Accounts.{count_of}
use Rattle.esc_account.specs.declared.fate.Fate.{Fate}
use Rattle.esc_account.specs.declared.fate.Fate.TheVariants as fates
use Rattle.esc_account.specs.declared.sums.Sums.{Sums}
use Rattle.escfilter.specs.Choices.{has_word}
use Rattle.escfilter.specs.declared.failing.Failing.{Failing}
use Rattle.escfilter.specs.declared.failing.Gate.{Gate}

-- whether a fate is a failure
abbrev pub fails : Failing → Fate → Bool
fails k fates.Passed = false
fails k fates.Respelled = k.respelled
fails k fates.Shown = k.shown
fails k fates.Replaced = k.replaced
fails k fates.LeftOut = k.left_out
fails k fates.Swallowed = k.swallowed
fails k fates.Overwritten = k.overwritten

-- some byte of a stream with these sums had a fate that is a failure
abbrev pub HasFailure : Failing → Sums → Type 0
HasFailure k s = (f : Fate) × (fails k f ≡ true) × (0 < count_of f s)

-- whether one had
abbrev pub are_met : Bool → ℕ → Bool
are_met is_failure count = is_failure && nat_lt 0 count

abbrev pub has_failure : Failing → Sums → Bool
has_failure k s =
    are_met k.respelled s.respelled || (are_met k.shown s.shown
    || (are_met k.replaced s.replaced || (are_met k.left_out s.left_out
    || (are_met k.swallowed s.swallowed || are_met k.overwritten s.overwritten))))

-- the fates of bytes that are not in the output, in any spelling
abbrev pub less : Failing
less = record {
  respelled = false;
  shown = true;
  replaced = true;
  left_out = true;
  swallowed = true;
  overwritten = true;
}

-- the fates whose words have their bits set; where none has, these
abbrev pub failing_of : ℕ → Failing
failing_of w =
    if w == 0 then less
    else record {
      respelled = has_word 0 w;
      shown = has_word 1 w;
      replaced = has_word 2 w;
      left_out = has_word 3 w;
      swallowed = has_word 4 w;
      overwritten = has_word 5 w;
    }

-- the gate, for which these fates are a failure, was told of streams with these sums
abbrev pub WasTold : Failing → List Sums → Gate → Type 0
WasTold k xs g = (g.failing ≡ k) × (g.is_met ≡ list_any (has_failure k) xs)
