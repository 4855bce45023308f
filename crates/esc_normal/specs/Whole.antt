-- The promises of a call that reads a watched reader to its end.
use Rattle.std.specs.Prelude.{◌≡◌, ◌↔◌, ℕ, Bool, List, Option, Result, IfErr, IfOk, IfSome, IsErrOf, IsTrue, OnOk}
use Rattle.std.specs.declared.io.traits.Read.{Ghosts as Reader}
use Rattle.std.specs.declared.io.traits.Write.{Ghosts as Writer}
use Rattle.esc_normal.specs.Io.{Borrowed, FailsWith, IsReadWhole, Writes, WritesNothing, WritesPrefix, had}
use Rattle.esc_normal.specs.declared.normalise_error.NormaliseError.{NormaliseError}
use Rattle.esc_normal.specs.declared.normalise_error.NormaliseError.TheVariants as fault
use Rattle.fallible_alloc.specs.Refusals.{Refused}

-- if the bytes that the reader had are known, this holds for them
abbrev pub OfAll : {R : Type 0} → Reader R → Borrowed R → (List ℕ → Type 0) → Type 0
OfAll R reader P = IfSome (had R reader) P

-- The effect of a call that reads all, and writes the text m of it:
pub record WritesText {R W X : Type 0} (A : Type 0) (Rd : Reader R) (Wr : Writer W)
    (m : List ℕ → List ℕ) (result : Result X NormaliseError) (reader : Borrowed R)
    (writer : Borrowed W) : Type 0 where
  -- on Ok all was read
  pub read_all : OnOk result (IsReadWhole Rd reader)
  -- and its text was written
  pub written : OnOk result (OfAll Rd reader (λ s. Writes Wr (m s) writer))
  -- after an error that is not the writer's, nothing was
  pub nothing : IfErr result (λ e. (e ≡ fault.Write → ⊥) → WritesNothing Wr writer)
  -- after the writer's, a prefix of the text was
  pub beginning : IsErrOf result fault.Write
      → OfAll Rd reader (λ s. WritesPrefix Wr (m s) writer)
  -- if the reader had not failed before, its error comes exactly if it has failed
  pub read_fault : FailsWith result fault.Read reader
  -- and so does the error of the writer
  pub write_fault : FailsWith result fault.Write writer
  -- the third says that memory was refused
  pub refused : IsErrOf result fault.Memory → Refused A

-- The result of a call that reads all, if `is` holds for the value that it returns and for the
-- bytes:
pub record ReadsAll {R X : Type 0} (A : Type 0) (Rd : Reader R) (is : X → List ℕ → Type 0)
    (result : Result X NormaliseError) (reader : Borrowed R) : Type 0 where
  -- on Ok all was read
  pub read_all : OnOk result (IsReadWhole Rd reader)
  -- and this is of it
  pub found : IfOk result (λ x. OfAll Rd reader (is x))
  -- if the reader had not failed before, its error comes exactly if it has failed
  pub read_fault : FailsWith result fault.Read reader
  -- another says that memory was refused
  pub refused : IsErrOf result fault.Memory → Refused A
  -- and there is no third
  pub not_write : IsErrOf result fault.Write → ⊥

-- true exactly of a stream that is its own text
abbrev pub IsOwnText : (List ℕ → List ℕ) → Bool → List ℕ → Type 0
IsOwnText m b s = IsTrue b ↔ (m s ≡ s)
