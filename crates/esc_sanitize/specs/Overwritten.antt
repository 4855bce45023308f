-- Text that other text took the place of.
use Rattle.std.specs.Prelude.{ℕ, ◌≡◌, ◌+◌, ◌-◌, ◌^◌, min, List, Option, Some, None}
use Rattle.esc_account.specs.declared.account.Account.{Account}
use Rattle.esc_account.specs.declared.sums.Sums.{Sums}
use Rattle.esc_filter.specs.declared.admit.Admit.{Ghosts as Admitter}
use Rattle.line_collapse.specs.Lost.{lost_by}
use Rattle.line_collapse.specs.Streams.{values_of}
use Rattle.line_collapse.specs.Windows.{Size}
use Rattle.esc_sanitize.specs.Written.{passed_of}
use Rattle.esc_sanitize.specs.declared.options.FilterOptions.{FilterOptions}

-- how much of what a text prints stands in no row that is written of it, where rows may be written
-- again, and that is counted
abbrev pub lost_in : Type 0 → Option Size → List ℕ → ℕ
lost_in A None u = 0
lost_in A (Some z) u = lost_by z (values_of A u)

-- by the options, of what passes of a stream that has ended
abbrev pub lost_of_stream : {P A : Type 0} → Admitter P A → FilterOptions P → List ℕ → ℕ
lost_of_stream {A = A} V o s = lost_in A o.window (passed_of V o s)

-- So many bytes count as overwritten: of those that passed, then of those that are shown, then of
-- those that are replaced, and all of these if they are fewer. The text that is written of them
-- prints.
abbrev pub past_passed : ℕ → Sums → ℕ
past_passed n x = n - x.passed

abbrev pub past_shown : ℕ → Sums → ℕ
past_shown n x = past_passed n x - x.shown

abbrev pub past_replaced : ℕ → Sums → ℕ
past_replaced n x = past_shown n x - x.replaced

abbrev pub sums_with_overwritten : ℕ → Sums → Sums
sums_with_overwritten n x = record x {
  passed = x.passed - n;
  shown = x.shown - past_passed n x;
  replaced = x.replaced - past_shown n x;
  overwritten = min (x.overwritten + (n - past_replaced n x)) (2 ^ 64 - 1);
}

abbrev pub with_overwritten : ℕ → Account → Account
with_overwritten n x = record x { sums = sums_with_overwritten n x.sums }
