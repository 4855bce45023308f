-- The values that rows were given.
use Rattle.std.proofs.Common.{ℕ, ◌≡◌, List, [], ◌++◌, Option, Some, is_some, max, refl, ap, sym, subst, ◌∙◌, append_assoc}
use Rattle.std.specs.List.{FoldsTo}
use Rattle.line_collapse.specs.declared.tally.Tally.{Tally}
use Rattle.esc_actions.proofs.Meaning.MeaningsJoin.{meaning_nil}
use Rattle.esc_actions.specs.Meaning.{yield_within}
use Rattle.esc_terminal.specs.Fed.{for_log, HasConsumed as TerminalHasConsumed}
use Rattle.esc_terminal.specs.declared.terminal.Terminal.{Terminal}
use Rattle.esc_terminal.specs.Scrolled.{Row, off_after, off_of}
use Rattle.esc_terminal.specs.Streams.{shown_of}
use Rattle.esc_terminal.proofs.Stepping.{goes_off_on}
use Rattle.screen_lines.specs.Parts.{emptied_out, first_out}
use Rattle.screen_lines.specs.Rows.{out_by_rows}
use Rattle.screen_lines.specs.Written.{WritesRow, out_of, text_of}
use Rattle.screen_lines.specs.declared.lines.Lines.{Lines}
use Rattle.screen_lines.proofs.Growing.{emptied_after, rows_more, rows_taken, text_after}
use Rattle.line_collapse.specs.Fed.{Closes, HasConsumed, HasWritten, final_after, left_after}
use Rattle.line_collapse.specs.Streams.{final_of, final_out, left_of, left_rows, open_of, shown_by_all, values_of}
use Rattle.line_collapse.specs.Taken.{IsCounted}
use Rattle.line_collapse.specs.Windows.{Size, screen_of}
use Rattle.line_collapse.proofs.Taken.{first_counted}

-- the rows that scroll off for the bytes after a stream
abbrev rows_of : (A : Type 0) → Size → List ℕ → List ℕ → List Row
rows_of A z s b = off_after (screen_of z) (shown_of A (screen_of z) s)
    (yield_within {A = A} (Some 0x1000) s b)

out_longer : (A : Type 0) (z : Size) (s b : List ℕ) → final_out z (values_of A (s ++ b))
    ≡ out_by_rows (final_out z (values_of A s)) (rows_of A z s b)
out_longer A z s b =
    ap (out_by_rows (first_out z.characters)) (goes_off_on A (screen_of z) s b)
    ∙ rows_more (first_out z.characters) (off_of A (screen_of z) s) (rows_of A z s b)

-- and only adds to the final rows
pub final_longer : (A : Type 0) (z : Size) (s b : List ℕ)
    → (t : List ℕ) × (final_of z (values_of A (s ++ b)) ≡ final_of z (values_of A s) ++ t)
final_longer A z s b =
    let o = final_out z (values_of A s) in (
      (out_by_rows (emptied_out o) (rows_of A z s b)).text,
      ap (λ x. x.text) (out_longer A z s b) ∙ text_after o (rows_of A z s b),
    )

pub nothing_final : (A : Type 0) (z : Size)
    → final_out z (values_of A []) ≡ first_out z.characters
nothing_final A z = ap (final_out z) (meaning_nil {A = A} (Some 0x1000))

-- at the beginning of a stream
pub first_fed : {A : Type 0} (z : Size) (t : Terminal A) (p : Lines A) (o : Option (Tally A))
    (columns rows : ℕ) → columns ≡ max z.columns 1 → rows ≡ max z.rows 1
    → TerminalHasConsumed (for_log columns rows) [] t → out_of p ≡ first_out z.characters
    → (is_some o ≡ z.counts) × IsCounted rows columns [] [] o
    → HasConsumed z [] (record { terminal = t; lines = Some p; tally = o })
first_fed {A} z t p o columns rows c r fed is counted = record {
  terminal = subst (λ n. TerminalHasConsumed (for_log n (max z.rows 1)) [] t) c
      (subst (λ n. TerminalHasConsumed (for_log columns n) [] t) r fed);
  lines = ap emptied_out (is ∙ sym (nothing_final A z));
  tally = first_counted z o columns rows c r counted;
}

-- lines that took these rows
pub written_more : {A : Type 0} (z : Size) (s b : List ℕ) (p q : Lines A)
    → out_of p ≡ emptied_out (final_out z (values_of A s))
    → FoldsTo WritesRow p (rows_of A z s b) q
    → HasWritten z (s ++ b) q
    × (final_of z (values_of A (s ++ b)) ≡ final_of z (values_of A s) ++ text_of q)
written_more {A} z s b p q at f =
    let o = final_out z (values_of A s) in
    let rs = rows_of A z s b in
    let taken : out_of q ≡ out_by_rows (emptied_out o) rs =
    rows_taken p rs q f ∙ ap (λ x. out_by_rows x rs) at in (
      ap emptied_out taken ∙ sym (emptied_after o rs)
          ∙ ap emptied_out (sym (out_longer A z s b)),
      ap (λ x. x.text) (out_longer A z s b) ∙ text_after o rs
          ∙ ap (λ x. o.text ++ x.text) (sym taken),
    )

-- lines with the rows that are left
pub open_added : {A : Type 0} (z : Size) (s : List ℕ) (p q : Lines A)
    → out_of p ≡ emptied_out (final_out z (values_of A s))
    → Closes (shown_of A (screen_of z) s) p q
    → HasWritten z s q × (text_of q ≡ open_of z (values_of A s))
open_added {A} z s p q at c =
    let rs = left_rows (shown_by_all z (values_of A s)) in (
      c.rest ∙ ap emptied_out at,
      c.text ∙ ap (λ x. (out_by_rows x rs).text) at,
    )

-- and with the last text before them
pub left_added : {A : Type 0} (z : Size) (s b : List ℕ) (p q : Lines A)
    → HasWritten z (s ++ b) p
    → final_of z (values_of A (s ++ b)) ≡ final_of z (values_of A s) ++ text_of p
    → Closes (shown_of A (screen_of z) (s ++ b)) p q
    → left_of z (values_of A (s ++ b)) ≡ final_of z (values_of A s) ++ text_of q
left_added {A} z s b p q at grown c =
    let rs = left_rows (shown_by_all z (values_of A (s ++ b))) in
    let last = open_of z (values_of A (s ++ b)) in
    let old = final_of z (values_of A s) in
    ap (λ x. x ++ last) grown ∙ append_assoc old (text_of p) last
    ∙ ap (λ x. old ++ x) (sym (c.text ∙ text_after (out_of p) rs
    ∙ ap (λ x. text_of p ++ (out_by_rows x rs).text) at))

-- ---- filters

-- the same of a filter whose text becomes longer
pub final_after_longer : (A : Type 0) (z : Size) (f m : List ℕ → List ℕ) (s b : List ℕ)
    → m ≡ final_after A z f → (x : List ℕ) × (f (s ++ b) ≡ f s ++ x)
    → (t : List ℕ) × (m (s ++ b) ≡ m s ++ t)
final_after_longer A z f m s b is (x, e) =
    let k = final_longer A z (f s) x in (
      k.0,
      ap (λ g. g (s ++ b)) is ∙ ap (λ y. final_of z (values_of A y)) e ∙ k.1
          ∙ ap (λ y. y ++ k.0) (sym (ap (λ g. g s) is)),
    )

pub left_after_longer : (A : Type 0) (z : Size) (f e m c : List ℕ → List ℕ) (s : List ℕ)
    → m ≡ final_after A z f → c ≡ left_after A z e → (x : List ℕ) × (e s ≡ f s ++ x)
    → (t : List ℕ) × (c s ≡ m s ++ t)
left_after_longer A z f e m c s is ends (x, more) =
    let k = final_longer A z (f s) x in
    let rest = open_of z (values_of A (f s ++ x)) in (
      k.0 ++ rest,
      ap (λ g. g s) ends ∙ ap (λ y. left_of z (values_of A y)) more
          ∙ ap (λ y. y ++ rest) k.1
          ∙ append_assoc (final_of z (values_of A (f s))) k.0 rest
          ∙ ap (λ y. y ++ (k.0 ++ rest)) (sym (ap (λ g. g s) is)),
    )

-- nothing has no final row
pub final_after_nil : (A : Type 0) (z : Size) (m : List ℕ → List ℕ) → m [] ≡ []
    → final_after A z m [] ≡ []
final_after_nil A z m e = ap (λ s. final_of z (values_of A s)) e
    ∙ ap (λ o. o.text) (nothing_final A z)

-- the rest of a stream that has ended is its final rows, and more
pub left_after_more : (A : Type 0) (z : Size) (m c : List ℕ → List ℕ)
    → ((s : List ℕ) → (x : List ℕ) × (c s ≡ m s ++ x)) → (s : List ℕ)
    → (t : List ℕ) × (left_after A z c s ≡ final_after A z m s ++ t)
left_after_more A z m c more s =
    left_after_longer A z m c (final_after A z m) (left_after A z c) s refl refl (more s)
