-- Tables have all that was added to them.
use Rattle.std.proofs.Common.{ℕ, zero, suc, ◌≡◌, ◌+◌, ◌<◌, ◌==◌, ◌^◌, Bool, true, false, if◌then◌else◌, List, [], ◌∷◌, ◌++◌, length, get_or, set, refl, sym, ap, ◌∙◌, arith}
use Rattle.std.proofs.lemmas.List.{get_or_at, set_at}
use Rattle.esc_account.specs.Entries.{Entry, bytes_with, order, part}
use Rattle.esc_account.specs.Tables.{HasAllRows, IsRow, SameRows, row_plus, rows_with, sum_up_to, things, things_with}
use Rattle.esc_account.specs.declared.fate.Fate.{Fate}
use Rattle.esc_account.specs.declared.row.Row.{Row}

module _ {N : Type 0} (m : Row N → ℕ) (f : Fate) where
  rows_both : (p q : List (Row N)) → rows_with m f (p ++ q) ≡ rows_with m f p + rows_with m f q
  rows_both [] q = omega arith
  rows_both (r ∷ p) q = omega (arith, rows_both p q)

  -- a row of so much more
  row_grows : (p q : List (Row N)) (r k : Row N) (n : ℕ) → k.fate ≡ r.fate
      → m k ≡ sum_up_to (m r) n
      → rows_with m f (p ++ r ∷ q) + part f r.fate n < 2 ^ 64
      → rows_with m f (p ++ k ∷ q) ≡ rows_with m f (p ++ r ∷ q) + part f r.fate n
  row_grows p q r k n ef em few =
      let a = rows_both p (r ∷ q) in
      let b = rows_both p (k ∷ q) in
      let e : part f k.fate (m k) ≡ part f r.fate (sum_up_to (m r) n) =
      ap (λ g. part f g (m k)) ef ∙ ap (part f r.fate) em in
      let here = by (order f == order r.fate) (omega (arith, few, a)) in
      omega (arith, a, b, e, here)
    where
      by : (t : Bool) → (if t then m r else 0) + (if t then n else 0) < 2 ^ 64
          → (if t then sum_up_to (m r) n else 0)
          ≡ (if t then m r else 0) + (if t then n else 0)
      by true h = omega (arith, h)
      by false h = refl

bytes_more : (f : Fate) (es : List Entry) (e : Entry)
    → bytes_with f (es ++ e ∷ []) ≡ bytes_with f es + part f e.fate (length e.bytes)
bytes_more f [] e = omega arith
bytes_more f (d ∷ es) e = omega (arith, bytes_more f es e)

things_more : (f : Fate) (es : List Entry) (e : Entry)
    → things_with f (es ++ e ∷ []) ≡ things_with f es + part f e.fate (things e)
things_more f [] e = omega arith
things_more f (d ∷ es) e = omega (arith, things_more f es e)

-- an entry more, in a row of its fate
pub one_added : {N : Type 0} (rows others : List (Row N)) (at : ℕ) (es : List Entry) (e : Entry)
    (n m : ℕ) → HasAllRows rows es → (h : IsRow rows at e.fate) → n ≡ things e
    → m ≡ length e.bytes → others ≡ h.before ++ row_plus h.row n m ∷ h.after
    → HasAllRows others (es ++ e ∷ [])
one_added {N} rows others at es e n m all h one bytes is = record {
  bytes = λ f few.
      by (λ r. r.bytes) m f refl (bytes_with f es) (bytes_with f (es ++ e ∷ []))
      (bytes_more f es e ∙ ap (λ k. bytes_with f es + part f e.fate k) (sym bytes)) (all.bytes f)
      few;
  count = λ f few.
      by (λ r. r.count) n f refl (things_with f es) (things_with f (es ++ e ∷ []))
      (things_more f es e ∙ ap (λ k. things_with f es + part f e.fate k) (sym one)) (all.count f)
      few;
}
  where
    by : (measure : Row N → ℕ) (k : ℕ) (f : Fate)
        → measure (row_plus h.row n m) ≡ sum_up_to (measure h.row) k
        → (old new : ℕ) → new ≡ old + part f e.fate k
        → (old < 2 ^ 64 → rows_with measure f rows ≡ old) → new < 2 ^ 64
        → rows_with measure f others ≡ new
    by measure k f em old new more had few =
        let was = had (omega (arith, more, few)) in
        let w = ap (rows_with measure f) h.whole in
        let p = ap (λ g. part f g k) h.fate in
        omega (
          arith,
          more,
          was,
          w,
          p,
          ap (rows_with measure f) is,
          row_grows measure f h.before h.after h.row (row_plus h.row n m) k refl em
              (omega (arith, was, w, p, more, few)),
        )

pub same_all : {N : Type 0} (rows others : List (Row N)) (es : List Entry) → HasAllRows rows es
    → SameRows rows others → HasAllRows others es
same_all rows others es all same = record {
  bytes = λ f few. (same f).0 ∙ all.bytes f few;
  count = λ f few. (same f).1 ∙ all.count f few;
}

-- a row of nothing at the end
pub begun_row : {N : Type 0} (rows : List (Row N)) (r : Row N) → r.bytes ≡ 0 → r.count ≡ 0
    → SameRows rows (rows ++ r ∷ [])
begun_row rows r b c = λ f. (
  omega (arith, rows_both (λ k. k.bytes) f rows (r ∷ []), none f r.fate r.bytes b),
  omega (arith, rows_both (λ k. k.count) f rows (r ∷ []), none f r.fate r.count c),
)
  where
    none : (f g : Fate) (n : ℕ) → n ≡ 0 → part f g n ≡ 0
    none f g n e = by (order f == order g)
      where
        by : (t : Bool) → (if t then n else 0) ≡ 0
        by true = e
        by false = refl

-- the row at a place
split : {X : Type 0} (xs : List X) (i : ℕ) (y : X) → i < length xs → y ≡ get_or xs i y
    → (p : List X) × (q : List X) × (xs ≡ p ++ y ∷ q) × (length p ≡ i)
split [] i y few is = absurd (omega (arith, few))
split (x ∷ xs) zero y few is = ([], xs, ap (λ v. v ∷ xs) (sym is), refl)
split (x ∷ xs) (suc i) y few is =
    let h = split xs i y (omega (arith, few)) is in
    (x ∷ h.0, h.1, ap (λ v. x ∷ v) h.2, ap suc h.3)

-- the row there has so much more
pub row_written : {N : Type 0} (rows p q : List (Row N)) (r k : Row N) (at n m a b : ℕ)
    → rows ≡ p ++ r ∷ q → length p ≡ at → k ≡ get_or rows at k → a ≡ sum_up_to k.count n
    → b ≡ sum_up_to k.bytes m
    → set rows at (record k { count = a; bytes = b }) ≡ p ++ row_plus r n m ∷ q
row_written rows p q r k at n m a b whole place is ea eb =
    let same : k ≡ r = is ∙ ap (λ v. get_or v at k) whole ∙ get_or_at p r q k at place in
    ap (λ v. set v at (record k { count = a; bytes = b })) whole
    ∙ set_at p r q (record k { count = a; bytes = b }) at place
    ∙ ap (λ v. p ++ (record k { count = v; bytes = b }) ∷ q) ea
    ∙ ap (λ v. p ++ (record k { count = sum_up_to k.count n; bytes = v }) ∷ q) eb
    ∙ ap (λ v. p ++ row_plus v n m ∷ q) same

pub row_here : {N : Type 0} (rows : List (Row N)) (at : ℕ) (r : Row N) (f : Fate)
    → at < length rows → r ≡ get_or rows at r → r.fate ≡ f → IsRow rows at f
row_here rows at r f few is e =
    let h = split rows at r few is in record {
      before = h.0;
      row = r;
      after = h.1;
      whole = h.2;
      place = h.3;
      fate = e;
    }

pub row_last : {N : Type 0} (rows others : List (Row N)) (r : Row N) (n : ℕ) (f : Fate)
    → others ≡ rows ++ r ∷ [] → n ≡ length rows → r.fate ≡ f → IsRow others n f
row_last rows others r n f is e h = record {
  before = rows;
  row = r;
  after = [];
  whole = is;
  place = sym e;
  fate = h;
}
