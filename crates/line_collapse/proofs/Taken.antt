-- Rows that were taken and counted.
use Rattle.std.proofs.Common.{ℕ, zero, suc, ◌≡◌, ◌+◌, ◌≤◌, min, max, inl, inr, length, take, Some, None, arith, List, [], ◌∷◌, ◌++◌, IfOk, Ok, Option, Result, is_some, refl, sym, ap, ◌∙◌, subst, append_assoc, append-nil}
use Rattle.std.proofs.lemmas.Bool.{cases_lt}
use Rattle.std.proofs.lemmas.List.{get_or_past, map-append}
use Rattle.std.proofs.lemmas.List.Sums.{sum_by-append}
use Rattle.std.proofs.lemmas.Result.{IfOk-at_ok}
use Rattle.std.specs.List.{FoldsTo, sum_by}
use Rattle.line_collapse.proofs.Adding.{same_amount, sum_first}
use Rattle.line_collapse.specs.Amounts.{amount}
use Rattle.line_collapse.specs.RowText.{cell_bytes, cell_chars, row_bytes, row_chars}
use Rattle.line_collapse.specs.Tallies.{HasTallied, kept_amount}
use Rattle.line_collapse.specs.declared.tally.Tally.{Tally}
use Rattle.esc_actions.proofs.Meaning.MeaningsJoin.{meaning_nil}
use Rattle.esc_actions.specs.Meaning.{yield_within}
use Rattle.esc_screen.specs.Cells.{blank}
use Rattle.esc_screen.specs.Used.{IsUnusedFrom}
use Rattle.esc_screen.specs.declared.cell.Cell.{Cell}
use Rattle.esc_terminal.proofs.Stepping.{goes_off_on}
use Rattle.esc_terminal.specs.Scrolled.{Row, off_after, off_of}
use Rattle.esc_terminal.specs.Streams.{first_shown, shown_of}
use Rattle.screen_lines.specs.Written.{WritesRow}
use Rattle.line_collapse.specs.Lost.{cells_of, final_cells}
use Rattle.line_collapse.specs.Taken.{IsCounted, IsCountedBy, Keeps, KeepsAll, Prints, TakesRow}
use Rattle.line_collapse.specs.Windows.{Size, screen_of}
use Rattle.line_collapse.specs.declared.taking.Taking.{Taking}

keeps_none : {A : Type 0} (o : Option (Tally A)) → KeepsAll o [] o
keeps_none o = (refl, λ m n s rs h. subst (λ x. IsCounted m n s x o) (sym (append-nil rs)) h)

keeps_both : {A : Type 0} (o p q : Option (Tally A)) (x : List Cell) (xs : List (List Cell))
    → KeepsAll o (x ∷ []) p → KeepsAll p xs q → KeepsAll o (x ∷ xs) q
keeps_both o p q x xs h k = (
  k.0 ∙ h.0,
  λ m n s rs at.
      subst (λ y. IsCounted m n s y q) (append_assoc rs (x ∷ []) xs)
      (k.1 m n s (rs ++ x ∷ []) (h.1 m n s rs at)),
)

-- rows, one after another
pub all_taken : {A : Type 0} (p : Taking A) (rs : List Row) (q : Taking A)
    → FoldsTo TakesRow p rs q
    → FoldsTo WritesRow p.lines rs q.lines × KeepsAll p.tally (cells_of rs) q.tally
all_taken p [] q e = (
  ap (λ x. x.lines) e,
  subst (λ x. KeepsAll p.tally [] x.tally) e (keeps_none p.tally),
)
all_taken p (r ∷ rs) q (j, (w, k), rest) =
    let a = all_taken j rs q rest in (
      (j.lines, w, a.0),
      keeps_both p.tally j.tally q.tally r.0 (cells_of rs) k a.1,
    )

-- those that bytes more scroll off
cells_more : (A : Type 0) (z : Size) (s b : List ℕ)
    → final_cells A z s
    ++ cells_of (off_after (screen_of z) (shown_of A (screen_of z) s)
    (yield_within {A = A} (Some 0x1000) s b))
    ≡ final_cells A z (s ++ b)
cells_more A z s b =
    sym (map-append (λ r. r.0) (off_of A (screen_of z) s)
    (off_after (screen_of z) (shown_of A (screen_of z) s)
    (yield_within {A = A} (Some 0x1000) s b)))
    ∙ ap cells_of (sym (goes_off_on A (screen_of z) s b))

pub counted_more : {A : Type 0} (z : Size) (s b : List ℕ) (o p : Option (Tally A))
    → IsCountedBy z (s ++ b) (final_cells A z s) o
    → KeepsAll o (cells_of (off_after (screen_of z) (shown_of A (screen_of z) s)
    (yield_within {A = A} (Some 0x1000) s b))) p
    → IsCountedBy z (s ++ b) (final_cells A z (s ++ b)) p
counted_more {A} z s b o p at more = (
  more.0 ∙ at.0,
  subst (λ x. IsCounted (screen_of z).rows (screen_of z).columns (s ++ b) x p)
      (cells_more A z s b)
      (more.1 (screen_of z).rows (screen_of z).columns (s ++ b) (final_cells A z s) at.1),
)

-- at first
pub first_counted : {A : Type 0} (z : Size) (o : Option (Tally A)) (columns rows : ℕ)
    → columns ≡ max z.columns 1 → rows ≡ max z.rows 1
    → (is_some o ≡ z.counts) × IsCounted rows columns [] [] o
    → IsCountedBy z [] (final_cells A z []) o
first_counted {A} z o columns rows c r h = (
  h.0,
  subst (λ x. IsCounted (screen_of z).rows (screen_of z).columns [] x o)
      (ap (λ vs. cells_of (off_after (screen_of z) (first_shown (screen_of z)) vs))
      (sym (meaning_nil {A = A} (Some 0x1000))))
      (subst (λ n. IsCounted (max z.rows 1) n [] [] o) c
      (subst (λ n. IsCounted n columns [] [] o) r h.1)),
)

-- text more that is counted
pub printed_more : {A E : Type 0} (z : Size) (s b : List ℕ) (rs : List (List Cell))
    (o k p : Option (Tally A)) (r : Result (Option (Tally A)) E) → k ≡ o → r ≡ Ok p
    → IfOk r (Prints k b) → IsCountedBy z s rs o → IsCountedBy z (s ++ b) rs p
printed_more z s b rs o k p r same is h at =
    let m = IfOk-at_ok (Prints k b) is h in
    let i = (screen_of z).rows in
    let j = (screen_of z).columns in (
      m.0 ∙ ap is_some same ∙ at.0,
      m.1 i j s rs (subst (IsCounted i j s rs) (sym same) at.1),
    )

-- ---- cells that are not used

none_used : (f : Cell → ℕ) → f (blank 0) ≡ 0 → (xs : List Cell) → IsUnusedFrom 0 xs
    → 0 ≡ sum_by f xs
none_used f e [] h = refl
none_used f e (x ∷ xs) h =
    let here : f x ≡ 0 = ap f (h 0 (omega arith)) ∙ e in
    let rest : 0 ≡ sum_by f xs = none_used f e xs (λ i at. h (suc i) (omega arith)) in
    omega (arith, here, rest, sum_first f x xs)

used_sum : (f : Cell → ℕ) → f (blank 0) ≡ 0 → (n : ℕ) (xs : List Cell) → IsUnusedFrom n xs
    → sum_by f (take n xs) ≡ sum_by f xs
used_sum f e zero xs h = none_used f e xs h
used_sum f e (suc n) [] h = refl
used_sum f e (suc n) (x ∷ xs) h =
    let rest = used_sum f e n xs (λ i at. h (suc i) (omega (arith, at))) in
    sym (sum_first f x (take n xs)) ∙ ap (λ t. f x + t) rest ∙ sum_first f x xs

-- the same amount of rows
same_kept : (rs : List (List Cell)) (x y : List Cell) → row_chars x ≡ row_chars y
    → row_bytes x ≡ row_bytes y → kept_amount (rs ++ x ∷ []) ≡ kept_amount (rs ++ y ∷ [])
same_kept rs x y e f = same_amount _ _ _ _ (one row_chars e) (one row_bytes f)
  where
    one : (f : List Cell → ℕ) → f x ≡ f y → sum_by f (rs ++ x ∷ []) ≡ sum_by f (rs ++ y ∷ [])
    one f h =
        sum_by-append f rs (x ∷ []) ∙ ap (λ t. sum_by f rs + (0 + t)) h
        ∙ sym (sum_by-append f rs (y ∷ []))

same_counted : {A : Type 0} (m n : ℕ) (s : List ℕ) (rs : List (List Cell)) (x y : List Cell)
    (o : Option (Tally A)) → row_chars x ≡ row_chars y → row_bytes x ≡ row_bytes y
    → IsCounted m n s (rs ++ x ∷ []) o → IsCounted m n s (rs ++ y ∷ []) o
same_counted m n s rs x y None e f h = tt
same_counted m n s rs x y (Some t) e f h = record {
  parser = h.parser;
  height = h.height;
  width = h.width;
  printed = h.printed;
  kept = h.kept ∙ same_kept rs x y e f;
}

used_least : (n : ℕ) (xs : List Cell) → IsUnusedFrom n xs → IsUnusedFrom (min n (length xs)) xs
used_least n xs h =
    elim (cases_lt (length xs) n) [
      | inl less ↦ λ i at. get_or_past xs i (blank 0) (omega (arith, less, at))
      | inr more ↦ λ i at. h i (omega (arith, more, at))
    ]

-- those that are used are counted
pub used_kept : {A : Type 0} (o p : Option (Tally A)) (xs : List Cell) (n m : ℕ)
    → IsUnusedFrom n xs → m ≡ min n (length xs) → Keeps o (take m xs) p → Keeps o xs p
used_kept o p xs n m unused is k =
    let few : IsUnusedFrom m xs =
    subst (λ i. IsUnusedFrom i xs) (sym is) (used_least n xs unused) in (
      k.0,
      λ i j s rs h.
          same_counted i j s rs (take m xs) xs p (used_sum cell_chars refl m xs few)
          (used_sum cell_bytes refl m xs few) (k.1 i j s rs h),
    )
