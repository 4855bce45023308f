-- The report on a stream, by its account.
use Rattle.std.specs.Prelude.{ℕ, ◌≡◌, ◌++◌, Bool, true, false, List, [], ◌∷◌, Option, Some}
use Rattle.std.specs.Global.{Global}
use Rattle.std.specs.declared.io.traits.Read.{Ghosts as Reader}
use Rattle.esc_account.specs.Ledgers.{IsCounted}
use Rattle.esc_account.specs.declared.account.Account.{Account}
use Rattle.esc_account.specs.declared.book.Book.{Ghosts as Writer}
use Rattle.esc_account.specs.declared.sums.Sums.{Sums}
use Rattle.esc_decode.specs.Decodings.{decoded_stream}
use Rattle.esc_filter.specs.declared.admit.Admit.{Ghosts as Admitter}
use Rattle.esc_normal.specs.Io.{Borrowed, Reads}
use Rattle.esc_sanitize.specs.Audits.{IsAudited, Told, way_by}
use Rattle.esc_sanitize.specs.Overwritten.{lost_of_stream}
use Rattle.esc_sanitize.specs.Written.{passed_of}
use Rattle.esc_sanitize.specs.declared.auditor.Auditor.{Auditor}
use Rattle.escfilter.specs.Choices.{admits_choice}
use Rattle.escfilter.specs.Failures.{WasTold, has_failure}
use Rattle.escfilter.specs.Fates.{IsComplete}
use Rattle.escfilter.specs.Rows.{HasRows}
use Rattle.escfilter.specs.declared.failing.Failing.{Failing}
use Rattle.escfilter.specs.declared.failing.Gate.{Gate}
use Rattle.escfilter.specs.declared.named_groups.Choice.{Choice}
use Rattle.escfilter.specs.declared.options.Form.{Form}
use Rattle.escfilter.specs.declared.options.Form.TheVariants as forms
use Rattle.escfilter.specs.declared.options.Options.{Options}
use Rattle.escfilter.specs.declared.rows.Rows.{Rows}

-- the values that pass by the program's choices
abbrev pub choices : Admitter Choice Global
choices = record { admits = admits_choice }

-- the rows of its reports
abbrev pub books : Writer Rows Global
books = record { was_given = HasRows }

-- the auditor has the account of the stream s by the options
abbrev pub HasAudited : Options → Auditor Choice Rows Global → List ℕ → Type 0
HasAudited o auditor s = IsAudited choices books o.filter auditor s

-- x is the account of the stream s by the options: of what it becomes by its encoding, of what
-- passes of that, and of how much of that stands in no row
abbrev pub IsAccountOf : Options → List ℕ → Account → Type 0
IsAccountOf o s x = Told (way_by choices o.filter) (decoded_stream o.filter.encoding s)
    (passed_of choices o.filter s) (lost_of_stream choices o.filter s) (Some x)

-- a report in this form, if any, has a line of each stream
abbrev pub is_json : Option Form → Bool
is_json (Some forms.Json) = true
is_json _ = false

-- The report on the stream s is that of its account: it is a failure exactly if some byte had a
-- fate that is one, and so the gate was told; and if all bytes are in the output, in their spelling
-- or another, a report in lines of text says nothing: its output is as it was.
pub record IsReported (o : Options) (old : Gate) (s : List ℕ) (fails : Bool) (new : Gate)
    (Same : Type 0) : Type 0 where
  pub account : Account
  pub is : IsAccountOf o s account
  pub failure : fails ≡ has_failure old.failing account.sums
  pub told : (k : Failing) (xs : List Sums) → WasTold k xs old
      → WasTold k (xs ++ account.sums ∷ []) new
  pub silent : IsComplete account.sums → is_json o.report ≡ false → Same

-- The same of the stream that a reader gave, where an account is kept of it, and it has fewer than
-- 2^62 bytes.
abbrev pub IsReportedOf : {R : Type 0} → Reader R → Options → Gate → Bool → Gate → Type 0
    → Borrowed R → Type 0
IsReportedOf R o old fails new Same reader = (s : List ℕ) × Reads R s reader
    × (IsCounted (decoded_stream o.filter.encoding s) → o.filter.audits ≡ true
    → IsReported o old s fails new Same)
