-- The effect of a filter on a watched reader and a watched writer that it was lent.
use Rattle.std.specs.Prelude.{ℕ, ◌≡◌, ◌≤◌, Bool, true, false, List, [], ◌++◌, length, Result, IsErrOf, OnErr, OnOk}
use Rattle.std.specs.declared.io.traits.Read.{Ghosts as Reader}
use Rattle.std.specs.declared.io.traits.Write.{Ghosts as Writer}
use Rattle.esc_normal.specs.Io.{Borrowed, FailsWith, IsReadWhole, Reads, Writes, WritesPrefix}
use Rattle.esc_normal.specs.declared.feeding.StreamFilter.{Ghosts as Feeder}
use Rattle.esc_normal.specs.declared.filter_error.FilterError.{FilterError}
use Rattle.esc_normal.specs.declared.filter_error.FilterError.TheVariants as fault
use Rattle.esc_normal.specs.declared.filtering.TheConstants.{MOST_READS}
use Rattle.fallible_alloc.specs.Refusals.{Refused}
use Rattle.fallible_alloc.specs.declared.lists.TheConstants.{READ_BUFFER}

-- how many bytes one read gives at most
abbrev pub most_a_read : ℕ
most_a_read = READ_BUFFER

-- some bytes were read, and a text was written that is this of them
abbrev pub HasFiltered : {R W : Type 0} → Reader R → Writer W → (List ℕ → List ℕ → Type 0)
    → Borrowed R → Borrowed W → Type 0
HasFiltered R W Is reader writer =
    (s : List ℕ) × (t : List ℕ) × Reads R s reader × Writes W t writer × Is s t

-- the same for at least n bytes
abbrev pub HasFilteredAtLeast : {R W : Type 0} → Reader R → Writer W → ℕ
    → (List ℕ → List ℕ → Type 0) → Borrowed R → Borrowed W → Type 0
HasFilteredAtLeast R W n Is reader writer =
    (s : List ℕ) × (t : List ℕ) × (n ≤ length s) × Reads R s reader × Writes W t writer × Is s t

-- the same, but nothing was written for the last bytes, at most n
abbrev pub HasFilteredAllBut : {R W : Type 0} → Reader R → Writer W → ℕ
    → (List ℕ → List ℕ → Type 0) → Borrowed R → Borrowed W → Type 0
HasFilteredAllBut R W n Is reader writer =
    (s : List ℕ) × (last : List ℕ) × (t : List ℕ) × (length last ≤ n) × Reads R (s ++ last) reader
    × Writes W t writer × Is s t

-- some bytes were read, and a prefix of their text was written
abbrev pub HasBegun : {R W : Type 0} → Reader R → Writer W → (List ℕ → List ℕ) → Borrowed R
    → Borrowed W → Type 0
HasBegun R W m reader writer =
    (s : List ℕ) × Reads R s reader × WritesPrefix W (m s) writer

-- t is the text that m gives for s
abbrev pub IsText : (List ℕ → List ℕ) → List ℕ → List ℕ → Type 0
IsText m s t = t ≡ m s

-- The effect of a filter on a reader and a writer that it was lent, by this result. m gives the
-- text of a stream that has ended; Is holds for a text of a stream, and is told whether the stream
-- has ended:
pub record Filters {R W X : Type 0} (Rd : Reader R) (Wr : Writer W) (m : List ℕ → List ℕ)
    (Is : Bool → List ℕ → List ℕ → Type 0) (result : Result X FilterError) (reader : Borrowed R)
    (writer : Borrowed W) : Type 0 where
  -- on Ok all was read
  pub read_all : OnOk result (IsReadWhole Rd reader)
  -- and the text of the stream, which has ended, was written
  pub written : OnOk result (HasFiltered Rd Wr (Is true) reader writer)
  -- after a fault of the reader, the text of all that was read, which goes on, was written
  pub decided : IsErrOf result fault.Read → HasFiltered Rd Wr (Is false) reader writer
  -- if the stream has no end, the text of at least so many bytes was written
  pub endless : IsErrOf result fault.Endless
      → HasFilteredAtLeast Rd Wr MOST_READS (Is false) reader writer
  -- if memory was refused, the text of all but the bytes of the last read was written
  pub until_refused : IsErrOf result fault.Memory
      → HasFilteredAllBut Rd Wr most_a_read (Is false) reader writer
  -- after any error, a prefix of the text of the bytes that were read was written
  pub beginning : OnErr result (HasBegun Rd Wr m reader writer)
  -- if the reader had not failed before, its fault comes exactly if it has failed
  pub read_fault : FailsWith result fault.Read reader
  -- and so does the fault of the writer
  pub write_fault : FailsWith result fault.Write writer

-- ---- a filter that is fed

-- this holds for the texts that the filter gives, and for the stream that it was fed
abbrev pub Given : {F A : Type 0} → Feeder F A → F
    → ((List ℕ → List ℕ) → (List ℕ → List ℕ) → List ℕ → Type 0) → Type 0
Given V f C = (m c : List ℕ → List ℕ) (s : List ℕ) → V.gives f m c s → C m c s

-- this holds for the texts that the filter gives, which was fed nothing; nothing has no text, and a
-- stream that has ended has the text of one that goes on, and more
abbrev pub New : {F A : Type 0} → Feeder F A → F
    → ((List ℕ → List ℕ) → (List ℕ → List ℕ) → Type 0) → Type 0
New V f C = (m c : List ℕ → List ℕ) → V.gives f m c [] → m [] ≡ []
    → ((s : List ℕ) → (t : List ℕ) × (c s ≡ m s ++ t)) → C m c

-- the text t of the stream s is given by the first if the stream has ended, and by the second if it
-- goes on
abbrev pub IsEither : (List ℕ → List ℕ) → (List ℕ → List ℕ) → Bool → List ℕ → List ℕ → Type 0
IsEither c m true s t = IsText c s t
IsEither c m false s t = IsText m s t

-- the reader gave some bytes, which the filter was fed, and their text was written
abbrev pub HasFed : {F A R W : Type 0} → Feeder F A → Reader R → Writer W → (List ℕ → List ℕ)
    → (List ℕ → List ℕ) → F → Borrowed R → Borrowed W → Type 0
HasFed V R W m c filter reader writer =
    (s : List ℕ) × V.gives filter m c s × Reads R s reader × Writes W (m s) writer

-- the reader gave some bytes, which were the filter's stream, and that has ended
abbrev pub HasEnded : {F A R : Type 0} → Feeder F A → Reader R → (List ℕ → List ℕ) → F
    → Borrowed R → Type 0
HasEnded V R c filter reader = (s : List ℕ) × V.has_ended filter c s × Reads R s reader

-- the filter, which was fed s, was fed b too, and the text that b adds was written
abbrev pub PassesOn : {F A W : Type 0} → Feeder F A → Writer W → (List ℕ → List ℕ)
    → (List ℕ → List ℕ) → List ℕ → List ℕ → F → Borrowed W → Type 0
PassesOn V W m c s b filter writer =
    V.gives filter m c (s ++ b)
    × ((t : List ℕ) × (m (s ++ b) ≡ m s ++ t) × Writes W t writer)

-- a prefix of the text that b adds after s was written
abbrev pub PassesPrefixOn : {W : Type 0} → Writer W → (List ℕ → List ℕ) → List ℕ → List ℕ
    → Borrowed W → Type 0
PassesPrefixOn W m s b writer =
    (t : List ℕ) × (m (s ++ b) ≡ m s ++ t) × WritesPrefix W t writer

-- The effect of a call that feeds a filter, or ends its stream, and writes the text that this adds.
-- On Ok `done` holds for the filter's texts and stream, and after an error `begun`:
pub record WritesAdded {F A W X : Type 0} (V : Feeder F A) (old : F)
    (done begun : (List ℕ → List ℕ) → (List ℕ → List ℕ) → List ℕ → Type 0)
    (result : Result X FilterError) (writer : Borrowed W) : Type 0 where
  -- the text was written
  pub given : Given V old (λ m c s. OnOk result (done m c s))
  -- or a prefix of it
  pub beginning : Given V old (λ m c s. OnErr result (begun m c s))
  -- if memory was refused, nothing was written
  pub unwritten : IsErrOf result fault.Memory → writer.exit.now ≡ writer.entry.now
  pub refused : Given V old (λ m c s. IsErrOf result fault.Memory → Refused A)
  -- if the writer had not failed before, its error comes exactly if it has failed
  pub write_fault : FailsWith result fault.Write writer
  -- and there is no other error
  pub no_read : IsErrOf result fault.Read → ⊥
  pub no_end : IsErrOf result fault.Endless → ⊥

-- The effect of a call on a filter that was fed nothing: it fed the filter the bytes that it read,
-- by n bytes at most, and wrote their text.
pub record FeedsAll {F A R W X : Type 0} (V : Feeder F A) (Rd : Reader R) (Wr : Writer W) (n : ℕ)
    (old : F) (result : Result X FilterError) (new : F) (reader : Borrowed R) (writer : Borrowed W)
    : Type 0 where
  -- on Ok it read all
  pub read_all : OnOk result (IsReadWhole Rd reader)
  pub fed : New V old (λ m c. OnOk result (HasFed V Rd Wr m c new reader writer))
  -- the errors are those of `Filters`, with the text that was written then
  pub decided : New V old (λ m c.
      IsErrOf result fault.Read → HasFiltered Rd Wr (IsText m) reader writer)
  pub endless : New V old (λ m c. IsErrOf result fault.Endless
      → HasFilteredAtLeast Rd Wr MOST_READS (IsText m) reader writer)
  pub until_refused : New V old (λ m c. IsErrOf result fault.Memory
      → HasFilteredAllBut Rd Wr n (IsText m) reader writer)
  pub beginning : New V old (λ m c. OnErr result (HasBegun Rd Wr c reader writer))
  pub read_fault : FailsWith result fault.Read reader
  pub write_fault : FailsWith result fault.Write writer
  pub refused : New V old (λ m c. IsErrOf result fault.Memory → Refused A)
