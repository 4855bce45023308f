-- An account, for C.
use Rattle.std.specs.Prelude.{ℕ, nat_le, if◌then◌else◌}
use Rattle.esc_account.specs.Accounts.{total}
use Rattle.esc_account.specs.declared.account.Account.{Account}
use Rattle.esc_calls.specs.declared.account_row.AccountRow.{AccountRow}

-- so many, if they have no more than 64 bits
abbrev pub length_of : ℕ → ℕ
length_of n = if nat_le n 0xffffffffffffffff then n else 0xffffffffffffffff

abbrev pub row_of : Account → AccountRow
row_of a = record {
  passed = a.sums.passed;
  respelled = a.sums.respelled;
  shown = a.sums.shown;
  replaced = a.sums.replaced;
  left_out = a.sums.left_out;
  swallowed = a.sums.swallowed;
  overwritten = a.sums.overwritten;
  length = length_of (total a.sums);
}
