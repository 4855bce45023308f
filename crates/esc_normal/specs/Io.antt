-- Reading and writing through watched readers and writers.
use Rattle.std.specs.Prelude.{◌≡◌, ◌↔◌, ℕ, Bool, false, List, ◌++◌, Option, Result, IsErrOf, IsTrue}
use Rattle.std.specs.Borrow.{MutBor}
use denote.Triple.Both.{Both}
use Rattle.std.specs.Io.KnownBytes.{Appends, Consumes, IsAtEnd, Keeps}
use Rattle.std.specs.declared.io.traits.Read.{Ghosts as Reader}
use Rattle.std.specs.declared.io.traits.Write.{Ghosts as Writer}
use Rattle.esc_normal.specs.declared.watched.Watched.{Watched}

-- the reader or writer inside a watched one
abbrev pub inner_of : {T : Type 0} → Watched T → T
inner_of w = w.inner

-- whether a call of it has failed
abbrev pub has_failed : {T : Type 0} → Watched T → Bool
has_failed w = w.failed

-- known bytes grew by a prefix of bs
abbrev pub AppendsPrefix : Option (List ℕ) → Option (List ℕ) → List ℕ → Type 0
AppendsPrefix old new bs = (prefix : List ℕ) × (rest : List ℕ) × (bs ≡ prefix ++ rest)
    × Appends old new prefix

-- a watched reader or writer that a call is lent: before it, and after it
abbrev pub Borrowed : Type 0 → Type 0
Borrowed T = Both (MutBor (Watched T)) (MutBor (Watched T))

-- the bytes that the reader had before the call, if they are known
abbrev pub had : {R : Type 0} → Reader R → Borrowed R → Option (List ℕ)
had R reader = R.remaining (inner_of reader.entry.now)

-- nothing is left that it could read
abbrev pub IsReadWhole : {R : Type 0} → Reader R → Borrowed R → Type 0
IsReadWhole R reader = IsAtEnd (R.remaining (inner_of reader.exit.now))

-- it gave these bytes
abbrev pub Reads : {R : Type 0} → Reader R → List ℕ → Borrowed R → Type 0
Reads R s reader =
    Consumes (R.remaining (inner_of reader.entry.now)) (R.remaining (inner_of reader.exit.now)) s

-- it took nothing
abbrev pub WritesNothing : {W : Type 0} → Writer W → Borrowed W → Type 0
WritesNothing W writer =
    Keeps (W.contents (inner_of writer.entry.now)) (W.contents (inner_of writer.exit.now))

-- it took these bytes
abbrev pub Writes : {W : Type 0} → Writer W → List ℕ → Borrowed W → Type 0
Writes W t writer =
    Appends (W.contents (inner_of writer.entry.now)) (W.contents (inner_of writer.exit.now)) t

-- it took a prefix of these bytes
abbrev pub WritesPrefix : {W : Type 0} → Writer W → List ℕ → Borrowed W → Type 0
WritesPrefix W t writer =
    AppendsPrefix (W.contents (inner_of writer.entry.now)) (W.contents (inner_of writer.exit.now)) t

-- if it had not failed before, the result is this error exactly if it has failed now
abbrev pub FailsWith : {T X E : Type 0} → Result X E → E → Borrowed T → Type 0
FailsWith result error borrowed =
    has_failed borrowed.entry.now ≡ false
    → (IsErrOf result error ↔ IsTrue (has_failed borrowed.exit.now))
