-- The account of segments that are finished, whatever comes after them.
use Rattle.std.specs.Prelude.{ℕ, ◌≡◌, ◌&&◌, Bool, true, false, List, [], ◌∷◌, ◌++◌}
use Rattle.esc_frame.specs.Leads.{AreFinished}
use Rattle.esc_frame.specs.Segments.{Segment as Shape, IsCut, joined_bytes}
use Rattle.esc_account.specs.Accounts.{Rule, step}
use Rattle.esc_account.specs.Entries.{Entry, entry_of, noted_entries}
use Rattle.esc_account.specs.LineEnds.{is_return_feed}
use Rattle.esc_account.specs.declared.account.Account.{Account}
use Rattle.esc_account.specs.declared.book.Book.{Ghosts as Writer}

-- after them
abbrev pub account_after : Rule → Account → List Shape → Account
account_after r x [] = x
account_after r x (g ∷ gs) = account_after r (step r x g true) gs

-- their entries
abbrev pub ended_entries : Rule → Account → List Shape → List Entry
ended_entries r x [] = []
ended_entries r x (g ∷ gs) = entry_of r x g true ∷ ended_entries r (step r x g true) gs

-- If `ends`, the bytes that are left begin nowhere among these segments, which the rest follows, as
-- a carriage return and a line feed and no more.
abbrev pub HasNoEnd : Bool → List Shape → List ℕ → Type 0
HasNoEnd ends [] rest = Unit {0}
HasNoEnd ends (g ∷ gs) rest =
    ((ends && is_return_feed (joined_bytes (g ∷ gs) ++ rest)) ≡ false) × HasNoEnd ends gs rest

-- The bytes begin with segments that are finished, among which is no end where `ends`, and the rest
-- follows these; they make y of x, and these are the entries of those that did not pass.
pub record Finishes (ends : Bool) (r : Rule) (x : Account) (bytes rest : List ℕ) (y : Account)
    (es : List Entry) : Type 0 where
  pub shapes : List Shape
  pub whole : bytes ≡ joined_bytes shapes ++ rest
  pub finished : AreFinished shapes rest
  pub before : HasNoEnd ends shapes rest
  pub account : y ≡ account_after r x shapes
  pub made : es ≡ noted_entries (ended_entries r x shapes)

-- the bytes are one segment or none, or where `ends` a carriage return and a line feed
abbrev pub IsLast : Bool → List ℕ → Type 0
IsLast ends bytes = (g : Shape) (gs : List Shape) → IsCut bytes (g ∷ gs)
    → (ends && is_return_feed bytes) ≡ false → gs ≡ []

-- the book was given these entries too
abbrev pub Takes : {B A : Type 0} → Writer B A → B → List Entry → B → Type 0
Takes W old fs new = (es : List Entry) → W.was_given old es → W.was_given new (es ++ fs)
