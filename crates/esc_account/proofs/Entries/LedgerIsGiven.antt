-- The characters and the entries that a ledger is given.
use Rattle.std.proofs.Common.{ℕ, ◌≡◌, ◌≢◌, Bool, true, false, if◌then◌else◌, Result, Ok, Err, IfOk, List, [], ◌∷◌, ◌++◌, refl, ap}
use Rattle.esc_frame.specs.Segments.{Segment as Shape, IsCut}
use Rattle.esc_account.specs.Accounts.{Rule, all_passed, line_begun}
use Rattle.esc_account.specs.Entries.{Entry, is_noted, noted_entries}
use Rattle.esc_account.specs.Ledgers.{LineEnters, LineGives}
use Rattle.esc_account.specs.LineEnds.{ends_so, line_entries, run_line}
use Rattle.esc_account.specs.declared.account.Account.{Account}

-- the theorem of `has_cut` and `one_cut`
abbrev pub HasCut : Type 0
HasCut = (stream : List ℕ) → (gs : List Shape) × IsCut stream gs

abbrev pub OneCut : Type 0
OneCut = (stream : List ℕ) (gs hs : List Shape) → IsCut stream gs → IsCut stream hs → gs ≡ hs

-- ---- entries of a book

pub noted_more : (e : Entry) (es : List Entry) → noted_entries (e ∷ es) ≡ noted_entries (e ∷ [])
    ++ noted_entries es
noted_more e es = by (is_noted e)
  where
    by : (b : Bool) → (if b then e ∷ noted_entries es else noted_entries es)
        ≡ (if b then e ∷ [] else []) ++ noted_entries es
    by true = refl
    by false = refl

-- ---- lines

pub never : (b : Bool) → b ≡ true → b ≡ false → ⊥
never true h k = cc
never false h k = cc

pub line_same : (r : Rule) (x y : Account) (line written : List ℕ) → written ≡ line
    → y ≡ all_passed line x → LineEnters r x line written y
line_same r x y line written e h = record {
  same = λ f. h;
  other = λ n. absurd (n e);
}

pub line_other : {E : Type 0} (r : Rule) (x : Account) (line written : List ℕ)
    (result : Result Account E) → written ≢ line
    → ((gs : List Shape) → IsCut line gs
    → IfOk result (λ y. y ≡ run_line (ends_so written) r (line_begun x) gs))
    → IfOk result (LineEnters r x line written)
line_other r x line written (Ok y) n h = record {
  same = λ e. absurd (n e);
  other = λ m gs cut. h gs cut;
}
line_other r x line written (Err e) n h = tt

-- the entries of a line that was not written as it came
pub gives_other : OneCut → (r : Rule) (x : Account) (line written : List ℕ) (gs : List Shape)
    → written ≢ line → IsCut line gs
    → LineGives r x line written (noted_entries
    (line_entries (ends_so written) r (line_begun x) gs))
gives_other once r x line written gs n cut = record {
  same = λ e. absurd (n e);
  other = λ m ks more.
      ap (λ z. noted_entries (line_entries (ends_so written) r (line_begun x) z))
      (once line gs ks cut more);
}
