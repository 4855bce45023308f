-- A sanitizer, and what it was fed.
use Rattle.std.specs.Prelude.{ℕ, ◌≡◌, true, false, if◌then◌else◌, List, []}
use Rattle.esc_account.specs.declared.account.Account.{Account}
use Rattle.esc_account.specs.declared.book.Book.{Ghosts as Writer}
use Rattle.esc_account.specs.declared.book.NoBook.{NoBook}
use Rattle.esc_filter.specs.declared.admit.Admit.{Ghosts as Admitter}
use Rattle.esc_filter.specs.declared.filter.Filter.{Filter}
use Rattle.esc_filter.specs.declared.line_filter.LineFilter.{LineFilter}
use Rattle.esc_filter.specs.declared.resuming.ResumingFilter.{ResumingFilter}
use Rattle.esc_normal.specs.declared.feeding.StreamFilter.{Ghosts as Feeder}
use Rattle.caret_notation.specs.declared.revealing.Revealing.{Revealing}
use Rattle.esc_sanitize.specs.Audits.{IsAudited, account_of, account_or_none}
use Rattle.esc_sanitize.specs.Stages.{Runs, auditor_of, staged_added}
use Rattle.esc_sanitize.specs.Stages.{options_of as options_of_staged}
use Rattle.esc_sanitize.specs.declared.either.Either.{Either}
use Rattle.esc_sanitize.specs.declared.options.FilterOptions.{FilterOptions}
use Rattle.esc_sanitize.specs.declared.sanitizer.Sanitizer.{Sanitizer}

-- its filters
abbrev pub Lined : Type 0 → Type 0 → Type 0
Lined P A = Either (ResumingFilter P A) (LineFilter P A)

abbrev pub Framed : Type 0 → Type 0 → Type 0
Framed P A = Either (Lined P A) (Filter P A)

abbrev pub Chain : Type 0 → Type 0 → Type 0
Chain P A = Either (Framed P A) (Revealing (Framed P A) P A)

abbrev pub no_book : {A : Type 0} → Writer NoBook A
no_book = record { was_given = λ _ _. Unit {0} }

-- the options by which it filters
abbrev pub options_of : {P A : Type 0} → Sanitizer P A → FilterOptions P
options_of z = options_of_staged z.staged

-- nothing more may come: the stream has ended, or a call failed
abbrev pub IsClosed : {P A : Type 0} → Sanitizer P A → Type 0
IsClosed z = z.is_open ≡ false

-- the text that the last call added
abbrev pub added_by : {P A : Type 0} → Feeder (Chain P A) A → Sanitizer P A → List ℕ
added_by G z = if z.has_failed then [] else staged_added G z.staged

-- it was fed this stream, which goes on
abbrev pub HasConsumed : {P A : Type 0} → Feeder (Chain P A) A → Admitter P A → List ℕ
    → Sanitizer P A
    → Type 0
HasConsumed G V s z = (z.is_open ≡ true) × (z.has_failed ≡ false) × Runs G V no_book z.staged s

-- the stream has ended: it has the account of that, by its options
abbrev pub HasEnded : {P A : Type 0} → Admitter P A → List ℕ → Sanitizer P A → Type 0
HasEnded V s z = IsAudited V no_book (options_of z) (auditor_of z.staged) s

-- its account
abbrev pub account_in : {P A : Type 0} → Sanitizer P A → Account
account_in z = account_or_none (account_of (auditor_of z.staged))
