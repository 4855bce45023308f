-- The settings of an account.
use Rattle.std.specs.Prelude.{ℕ, List}
use Rattle.esc_account.specs.Accounts.{IsAccount, Rule}
use Rattle.esc_account.specs.Entries.{Entry}
use Rattle.esc_account.specs.Ledgers.{IsLineAccount}
use Rattle.esc_account.specs.declared.account.Account.{Account}

-- by no rule, since none is kept; by this one, of lines that are streams of their own; or of a
-- stream that is one
pub data Way : Type 0 where
  Silent : Way
  ByLines : Rule → Way
  Whole : Rule → Way

abbrev pub silent_way : Way
silent_way = Way.Silent

abbrev pub by_lines : Rule → Way
by_lines r = Way.ByLines r

abbrev pub whole_way : Rule → Way
whole_way r = Way.Whole r

-- the account of the stream s, of which t was written, where one is kept
abbrev pub IsToldBy : Way → List ℕ → List ℕ → Account → Type 0
IsToldBy Way.Silent s t x = Unit {0}
IsToldBy (Way.ByLines r) s t x = (es : List Entry) × IsLineAccount r s t x es
IsToldBy (Way.Whole r) s t x = IsAccount r s x
