-- The account that an auditor keeps of a stream.
use Rattle.std.specs.Prelude.{ℕ, ◌≡◌, if◌then◌else◌, List, Option, Some, None, length}
use Rattle.std.specs.declared.io.traits.Read.{Ghosts as Reader}
use Rattle.esc_account.specs.Accounts.{begun, total}
use Rattle.esc_account.specs.Ledgers.{IsCounted, Keeps, Tells}
use Rattle.esc_account.specs.Ways.{IsToldBy, Way, by_lines, silent_way, whole_way}
use Rattle.esc_account.specs.Wholes.{Closes, Hears}
use Rattle.esc_account.specs.declared.account.Account.{Account}
use Rattle.esc_account.specs.declared.book.Book.{Ghosts as Writer}
use Rattle.esc_account.specs.declared.judge.Judge.{Ghosts as Ruler}
use Rattle.esc_decode.specs.Decodings.{decoded_stream}
use Rattle.esc_filter.specs.declared.admit.Admit.{Ghosts as Admitter}
use Rattle.esc_normal.specs.Io.{Borrowed, Reads}
use Rattle.esc_sanitize.specs.Judged.{judged_rule, rule_by}
use Rattle.esc_sanitize.specs.Overwritten.{lost_of_stream, with_overwritten}
use Rattle.esc_sanitize.specs.Written.{passed_of}
use Rattle.esc_sanitize.specs.declared.auditor.Auditor.{Auditor}
use Rattle.esc_sanitize.specs.declared.auditor.Auditor.TheVariants as auditors
use Rattle.esc_sanitize.specs.declared.judging.Judging.{Judging}
use Rattle.esc_sanitize.specs.declared.options.FilterOptions.{FilterOptions}

abbrev pub ruler : {P A : Type 0} → Admitter P A → Ruler (Judging P A) A
ruler V = record { rule = judged_rule V }

-- it heard this stream, of which this text was written
abbrev pub Heard : {P B A : Type 0} → Admitter P A → Writer B A → Auditor P B A → List ℕ → List ℕ
    → Type 0
Heard V W auditors.Nobody s t = Unit {0}
Heard V W (auditors.Lines k n) s t = IsCounted s → Keeps (ruler V) W k s t
Heard V W (auditors.Whole k n) s t = IsCounted s → Hears (ruler V) W k s

-- the same of one that has ended
abbrev pub HeardAll : {P B A : Type 0} → Admitter P A → Writer B A → Auditor P B A → List ℕ
    → List ℕ → Type 0
HeardAll V W auditors.Nobody s t = Unit {0}
HeardAll V W (auditors.Lines k n) s t = IsCounted s → Tells (ruler V) W k s t
HeardAll V W (auditors.Whole k n) s t = IsCounted s → Closes (ruler V) W k s

-- its settings
abbrev pub way_of : {P B A : Type 0} → Admitter P A → Auditor P B A → Way
way_of V auditors.Nobody = silent_way
way_of V (auditors.Lines k n) = by_lines (judged_rule V k.judge)
way_of V (auditors.Whole k n) = whole_way (judged_rule V k.judge)

-- by the options
abbrev pub way_by : {P A : Type 0} → Admitter P A → FilterOptions P → Way
way_by V o = if o.audits
    then (if o.by_lines then by_lines (rule_by V o) else whole_way (rule_by V o))
    else silent_way

-- so many bytes count as overwritten, where it keeps an account
abbrev pub HasNoted : {P B A : Type 0} → ℕ → Auditor P B A → Type 0
HasNoted n auditors.Nobody = Unit {0}
HasNoted n (auditors.Lines k m) = m ≡ n
HasNoted n (auditors.Whole k m) = m ≡ n

-- its account
abbrev pub account_of : {P B A : Type 0} → Auditor P B A → Option Account
account_of auditors.Nobody = None
account_of (auditors.Lines k n) = Some (with_overwritten n k.account)
account_of (auditors.Whole k n) = Some (with_overwritten n k.account)

-- the book that was given the entries of it
abbrev pub book_of : {P B A : Type 0} → Auditor P B A → Option B
book_of auditors.Nobody = None
book_of (auditors.Lines k n) = Some k.book
book_of (auditors.Whole k n) = Some k.book

-- its account, or that of no byte if it keeps none
abbrev pub account_or_none : Option Account → Account
account_or_none None = begun
account_or_none (Some x) = x

-- the account of the stream s, of which t passed, by this, but that n bytes of t are overwritten;
-- there is one, but where none is kept
abbrev pub Told : Way → List ℕ → List ℕ → ℕ → Option Account → Type 0
Told w s t n None = w ≡ silent_way
Told w s t n (Some x) = (total x.sums ≡ length s)
    × ((y : Account) × (x ≡ with_overwritten n y) × IsToldBy w s t y)

-- These bytes have ended, and the auditor goes by the options and heard all of what they become,
-- and the text of that: it has the account, and its book the entries, if there are not too many
-- bytes to be counted.
pub record IsAudited {P B A : Type 0} (V : Admitter P A) (W : Writer B A) (o : FilterOptions P)
    (auditor : Auditor P B A) (s : List ℕ) : Type 0 where
  pub told : IsCounted (decoded_stream o.encoding s)
      → Told (way_by V o) (decoded_stream o.encoding s) (passed_of V o s) (lost_of_stream V o s)
      (account_of auditor)
  pub heard : HeardAll V W auditor (decoded_stream o.encoding s) (passed_of V o s)
  pub way : way_of V auditor ≡ way_by V o

-- the same of the bytes that a reader gave
abbrev pub HasAccount : {P B R A : Type 0} → Admitter P A → Writer B A → Reader R
    → FilterOptions P → Auditor P B A → Borrowed R → Type 0
HasAccount V W R o auditor reader = (s : List ℕ) × Reads R s reader × IsAudited V W o auditor s
