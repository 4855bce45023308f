-- The stream that a ledger has heard as one.
use Rattle.std.specs.Prelude.{ℕ, ◌≡◌, false, List, length}
use Rattle.esc_frame.specs.Segments.{Segment as Shape, IsCut}
use Rattle.esc_account.specs.Accounts.{begun, run, total}
use Rattle.esc_account.specs.Entries.{Entry, entries, noted_entries}
use Rattle.esc_account.specs.Finished.{Finishes}
use Rattle.esc_account.specs.declared.book.Book.{Ghosts as Writer}
use Rattle.esc_account.specs.declared.judge.Judge.{Ghosts as Ruler}
use Rattle.esc_account.specs.declared.ledger.Ledger.{Ledger}

-- the stream s: the segments that are finished are in the account, and the rest is kept
abbrev pub Hears : {J B A : Type 0} → Ruler J A → Writer B A → Ledger J B A → List ℕ → Type 0
Hears V W k s = (es : List Entry)
    × Finishes false (V.rule k.judge) begun s k.rest.items k.account es × W.was_given k.book es

-- the stream s has ended: the account is that of its one cut, and the book was given the entries
abbrev pub Closes : {J B A : Type 0} → Ruler J A → Writer B A → Ledger J B A → List ℕ → Type 0
Closes V W k s = (total k.account.sums ≡ length s) × ((gs : List Shape) × IsCut s gs
    × (k.account ≡ run (V.rule k.judge) begun gs)
    × W.was_given k.book (noted_entries (entries (V.rule k.judge) begun gs)))
