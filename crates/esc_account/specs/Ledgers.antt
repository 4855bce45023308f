-- The account of a stream whose lines are streams of their own, with what was written of each.
use Rattle.std.specs.Prelude.{ℕ, ◌≡◌, ◌≢◌, ◌<◌, ◌≤◌, ◌^◌, true, false, List, [], ◌∷◌, ◌++◌, length, take}
use Rattle.esc_frame.specs.Segments.{Segment as Shape, IsCut}
use Rattle.esc_filter.specs.Lines.{ends_line, has_line_feed, lines}
use Rattle.esc_account.specs.Accounts.{Rule, all_passed, begun, line_begun, total}
use Rattle.esc_account.specs.Entries.{Entry, noted_entries}
use Rattle.esc_account.specs.LineEnds.{ends_so, line_entries, run_line}
use Rattle.esc_account.specs.declared.account.Account.{Account}
use Rattle.esc_account.specs.declared.book.Book.{Ghosts as Writer}
use Rattle.esc_account.specs.declared.judge.Judge.{Ghosts as Ruler}
use Rattle.esc_account.specs.declared.line_ledger.LineLedger.{LineLedger}

-- A line, of which this was written, makes y of x: where it was written as it came all of it
-- passed, and else its segments tell, and its end passed where what was written has such an end.
pub record LineEnters (r : Rule) (x : Account) (line written : List ℕ) (y : Account) : Type 0 where
  pub same : written ≡ line → y ≡ all_passed line x
  pub other : written ≢ line → (gs : List Shape) → IsCut line gs
      → y ≡ run_line (ends_so written) r (line_begun x) gs

-- A line, of which this was written, has these entries after x: none where it was written as it
-- came, and else those of its segments that did not pass.
pub record LineGives (r : Rule) (x : Account) (line written : List ℕ) (es : List Entry)
    : Type 0 where
  pub same : written ≡ line → es ≡ []
  pub other : written ≢ line → (gs : List Shape) → IsCut line gs
      → es ≡ noted_entries (line_entries (ends_so written) r (line_begun x) gs)

-- the line makes y of x, and has these entries
abbrev pub LineRuns : Rule → Account → List ℕ → List ℕ → Account → List Entry → Type 0
LineRuns r x line written y es = LineEnters r x line written y × LineGives r x line written es

abbrev pub first : List (List ℕ) → List ℕ
first [] = []
first (t ∷ ts) = t

abbrev pub others : List (List ℕ) → List (List ℕ)
others [] = []
others (t ∷ ts) = ts

-- Lines, of each of which the line of the text in the same place was written, or nothing where
-- there is none, make y of x, and have these entries.
abbrev pub LinesRun : Rule → Account → List (List ℕ) → List (List ℕ) → Account → List Entry
    → Type 0
LinesRun r x [] ts y es = (y ≡ x) × (es ≡ [])
LinesRun r x (l ∷ ls) ts y es = (z : Account) × (fs : List Entry) × (gs : List Entry)
    × LineRuns r x l (first ts) z fs × LinesRun r z ls (others ts) y gs × (es ≡ fs ++ gs)

-- The account of the lines of the stream s, of which the lines of t were written, and its entries.
abbrev pub IsLineAccount : Rule → List ℕ → List ℕ → Account → List Entry → Type 0
IsLineAccount r s t x es = LinesRun r begun (lines s) (lines t) x es

-- the same of lines that have ended
pub record HasRun (r : Rule) (s t : List ℕ) (x : Account) (es : List Entry) : Type 0 where
  pub ends : ends_line true s ≡ true
  pub text_ends : ends_line true t ≡ true
  pub same : length (lines s) ≡ length (lines t)
  pub sums : total x.sums ≡ length s
  pub lines : x.lines ≤ length s
  pub run : IsLineAccount r s t x es

-- ---- the stream that a ledger has heard

-- a stream that is not too long to be counted
abbrev pub IsCounted : List ℕ → Type 0
IsCounted s = length s < 2 ^ 62

-- The account x has all of the stream s, of which t was written, but `line` and `text`, which come
-- last: lines that have ended; and P holds of their entries.
pub record Stands (r : Rule) (P : List Entry → Type 0) (x : Account) (line text s t : List ℕ)
    : Type 0 where
  pub ended : List ℕ
  pub written : List ℕ
  pub made : List Entry
  pub whole : s ≡ ended ++ line
  pub text_whole : t ≡ written ++ text
  pub run : HasRun r ended written x made
  pub given : P made

-- the first n bytes are lines that were written as they came, and make y of x
abbrev pub PassesSame : Account → List ℕ → List ℕ → ℕ → Account → Type 0
PassesSame x line text n y = (take n line ≡ take n text) × (ends_line true (take n line) ≡ true)
    × (n ≡ 0 → y ≡ x) × (0 < n → y ≡ all_passed (take n line) x)

-- neither has a line feed
abbrev pub AreOpen : List ℕ → List ℕ → Type 0
AreOpen line text = (has_line_feed line ≡ false) × (has_line_feed text ≡ false)

-- the same of a ledger, of what these are left of
abbrev pub Leaves : {J B A : Type 0} → Ruler J A → Writer B A → LineLedger J B A → List ℕ → List ℕ
    → List ℕ → List ℕ → Type 0
Leaves V W k line text s t =
    Stands (V.rule k.judge) (W.was_given k.book) k.account line text s t

-- it keeps these, and knows where they have no line feed
abbrev pub Keeps : {J B A : Type 0} → Ruler J A → Writer B A → LineLedger J B A → List ℕ → List ℕ
    → Type 0
Keeps V W k s t = Leaves V W k k.line.items k.text.items s t
    × (k.is_open ≡ true → AreOpen k.line.items k.text.items)

-- the stream s has ended: the account is that of its lines, with what was written of them, and the
-- book was given the entries
abbrev pub Tells : {J B A : Type 0} → Ruler J A → Writer B A → LineLedger J B A → List ℕ → List ℕ
    → Type 0
Tells V W k s t = (total k.account.sums ≡ length s) × ((es : List Entry)
    × IsLineAccount (V.rule k.judge) s t k.account es × W.was_given k.book es)
