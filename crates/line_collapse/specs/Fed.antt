-- The stream that rows were given.
use Rattle.std.specs.Prelude.{ℕ, ◌≡◌, List, [], ◌++◌, IsSomeAnd, None, Option, Some}
use Rattle.line_collapse.specs.declared.tally.Tally.{Tally}
use Rattle.esc_normal.specs.declared.feeding.StreamFilter.{Ghosts as Feeder}
use Rattle.esc_terminal.specs.Fed.{HasConsumed as TerminalHasConsumed}
use Rattle.esc_screen.specs.Grids.{Grid}
use Rattle.esc_terminal.specs.Links.{Known}
use Rattle.esc_terminal.specs.Scrolled.{with_known}
use Rattle.esc_terminal.specs.Streams.{Shown}
use Rattle.screen_lines.specs.Parts.{emptied_out}
use Rattle.screen_lines.specs.Rows.{out_by_rows}
use Rattle.screen_lines.specs.Written.{out_of, text_of}
use Rattle.screen_lines.specs.declared.lines.Lines.{Lines}
use Rattle.line_collapse.specs.Lost.{final_cells}
use Rattle.line_collapse.specs.Streams.{final_of, final_out, left_of, rows_left, values_of}
use Rattle.line_collapse.specs.Taken.{IsCountedBy}
use Rattle.line_collapse.specs.Windows.{Size, screen_of}
use Rattle.line_collapse.specs.declared.collapse.LineCollapser.{LineCollapser}
use Rattle.line_collapse.specs.declared.collapsing.Collapsing.{Collapsing}

-- the rows that are final of this stream were written
abbrev pub HasWritten : {A : Type 0} → Size → List ℕ → Lines A → Type 0
HasWritten {A} z s p = emptied_out (out_of p) ≡ emptied_out (final_out z (values_of A s))

-- the collapse was fed these bytes
pub record HasConsumed {A : Type 0} (z : Size) (s : List ℕ) (c : LineCollapser A) : Type 0 where
  pub terminal : TerminalHasConsumed (screen_of z) s c.terminal
  pub lines : IsSomeAnd c.lines (HasWritten z s)
  pub tally : IsCountedBy z s (final_cells A z s) c.tally

-- before the text b, which was counted: these lines, with no text, were fed s, and where z counts,
-- this tally counted b too
pub record Stands {A : Type 0} (z : Size) (s b : List ℕ) (p : Lines A) (o : Option (Tally A))
    : Type 0 where
  pub lines : out_of p ≡ emptied_out (final_out z (values_of A s))
  pub tally : IsCountedBy z (s ++ b) (final_cells A z s) o

-- The text grows by the rows that are left on a screen, of which so much is known, and nothing else
-- changes.
pub record ClosesOn {A : Type 0} (k : Known) (g : Grid) (p q : Lines A) : Type 0 where
  pub text : text_of q ≡ (out_by_rows (out_of p) (with_known k (rows_left k g))).text
  pub rest : emptied_out (out_of q) ≡ emptied_out (out_of p)

abbrev pub Closes : {A : Type 0} → Shown → Lines A → Lines A → Type 0
Closes t p q = ClosesOn t.known t.grid p q

-- an earlier call was refused memory
abbrev pub IsBroken : {A : Type 0} → LineCollapser A → Type 0
IsBroken c = c.lines ≡ None

-- the text that the last call added
abbrev pub text_in : {A : Type 0} → Option (Lines A) → List ℕ
text_in None = []
text_in (Some p) = text_of p

abbrev pub added_by : {A : Type 0} → LineCollapser A → List ℕ
added_by c = text_in c.lines

-- this holds of each stream that the collapse may have been fed
abbrev pub After : {A : Type 0} → LineCollapser A → (Size → List ℕ → Type 0) → Type 0
After c C = (z : Size) (s : List ℕ) → HasConsumed z s c → C z s

-- the collapse, which was fed s, was fed b too, and has the text that b adds
abbrev pub TakesIn : {A : Type 0} → Size → List ℕ → List ℕ → LineCollapser A → Type 0
TakesIn {A} z s b c = HasConsumed z (s ++ b) c
    × (final_of z (values_of A (s ++ b)) ≡ final_of z (values_of A s) ++ added_by c)

-- the rows of a filter, which gives texts for streams that go on and for those that have ended: the
-- final rows of the first, and all rows of the second
abbrev pub final_after : Type 0 → Size → (List ℕ → List ℕ) → List ℕ → List ℕ
final_after A z m s = final_of z (values_of A (m s))

abbrev pub left_after : Type 0 → Size → (List ℕ → List ℕ) → List ℕ → List ℕ
left_after A z c s = left_of z (values_of A (c s))

-- the filter gives the texts m and c and was fed s, and the collapse was fed its text
pub record IsFed {F A : Type 0} (V : Feeder F A) (z : Size) (m c : List ℕ → List ℕ)
    (s : List ℕ) (f : Collapsing F A) : Type 0 where
  pub inner : V.gives f.inner m c s
  pub collapse : HasConsumed z (m s) f.collapse
