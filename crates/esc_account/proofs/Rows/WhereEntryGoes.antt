-- The rows of a table: terminators, and where an entry goes.
use Rattle.std.proofs.Common.{ℕ, zero, suc, ◌≡◌, ◌<◌, ◌≤◌, ◌==◌, ◌&&◌, Bool, true, false, if◌then◌else◌, List, [], ◌∷◌, ◌++◌, length, get_or, length-append, take, drop, refl, sym, ap, ◌∙◌, subst, arith, Option, Some, None, Result, Ok, Err}
use Rattle.std.proofs.lemmas.Bool.{and_parts, eqb-true, eq-eqb}
use Rattle.std.proofs.lemmas.List.{get_or_at}
use Rattle.std.specs.Cmp.{IsEquivalence}
use Rattle.std.specs.Prelude.{IfOk}
use Rattle.esc_account.specs.Entries.{order}
use Rattle.esc_account.specs.Rows.{GoesTo, HasRowsOf, IsOther, IsRowOf, Named, after_these, has_row, is_row, joined_entries, joined_after, joined_to, last_of, name_after, rows_of, under}
use Rattle.esc_account.specs.Tables.{IsRow, row_plus, things}
use Rattle.esc_account.specs.declared.fate.Fate.{Fate}
use Rattle.esc_account.specs.declared.fate.Fate.TheVariants as fates
use Rattle.esc_account.specs.declared.row.Row.{Row}
use Rattle.esc_account.specs.declared.table.Table.{Table}
use Rattle.esc_account.proofs.Rows.OneEntryMore.{found_row, goes_on, one_goes}

-- ---- terminators

pub joined_more : {N : Type 0} (b : Option (Named N)) (es : List (Named N)) (e : Named N)
    → joined_after b (es ++ e ∷ [])
    ≡ joined_after b es ++ joined_to (last_of b (joined_after b es)) e ∷ []
joined_more b [] e = refl
joined_more b (x ∷ es) e =
    ap (λ l. joined_to b x ∷ l) (joined_more (Some (joined_to b x)) es e)

pub last_more : {N : Type 0} (b : Option (Named N)) (es : List (Named N)) (e : Named N)
    → last_of b (es ++ e ∷ []) ≡ Some e
last_more b [] e = refl
last_more b (x ∷ es) e = last_more (Some x) es e

-- the fate in this place
in_place : ℕ → Fate
in_place n =
    if n == 0 then fates.Passed
    else if n == 1 then fates.Respelled
    else if n == 2 then fates.Shown
    else if n == 3 then fates.Replaced
    else if n == 4 then fates.LeftOut
    else if n == 5 then fates.Swallowed
    else fates.Overwritten

placed : (f : Fate) → in_place (order f) ≡ f
unfolding in_place
placed fates.Passed = refl
placed fates.Respelled = refl
placed fates.Shown = refl
placed fates.Replaced = refl
placed fates.LeftOut = refl
placed fates.Swallowed = refl
placed fates.Overwritten = refl

pub one_fate : (f g : Fate) → order f ≡ order g → f ≡ g
one_fate f g e = sym (placed f) ∙ ap in_place e ∙ placed g

module _ {N : Type 0} (same : N → N → Bool) (rows : List (Row N)) (at : ℕ) where
  -- where the row of the entry before has another fate, the name stays
  pub keeps_name : (b : Option (Named N)) (e : Named N)
      → ((d : Named N) → b ≡ Some d → IsRowOf same rows at d.entry.fate d.name)
      → IsOther rows at e.entry.fate → joined_to b e ≡ e
  keeps_name None e last other = refl
  keeps_name (Some d) e last other =
      let h = last d refl in
      let p = and_parts (order h.row.fate == order d.entry.fate) (same h.row.name d.name) h.is in
      let k : (order d.entry.fate == order e.entry.fate) ≡ false =
      ap (λ n. n == order e.entry.fate) (sym (eqb-true (order h.row.fate) (order d.entry.fate) p.0))
      ∙ other h.before h.after h.row h.whole h.place in
      ap (λ n. under n e.entry) (by e.entry.is_end _ k)
    where
      by : (t u : Bool) → u ≡ false → (if t && u then d.name else e.name) ≡ e.name
      by true u k = rw k refl
      by false u k = refl

  pub no_end : (b : Option (Named N)) (e : Named N) → e.entry.is_end ≡ false
      → joined_to b e ≡ e
  no_end None e h = refl
  no_end (Some d) e h = rw h refl

  -- where it has the fate of the terminator, this goes to that row
  pub takes_name : (b : Option (Named N)) (e : Named N)
      → ((d : Named N) → b ≡ Some d → IsRowOf same rows at d.entry.fate d.name)
      → (h : IsRow rows at e.entry.fate) → (b ≡ None → rows ≡ [])
      → e.entry.is_end ≡ true
      → IsRowOf same rows at (joined_to b e).entry.fate (joined_to b e).name
  takes_name None e last h none end =
      absurd (not_empty h.before h.after h.row (sym h.whole ∙ none refl))
    where
      not_empty : (p q : List (Row N)) (r : Row N) → p ++ r ∷ q ≡ [] → ⊥
      not_empty [] q r e = cc
      not_empty (x ∷ p) q r e = cc
  takes_name (Some d) e last h none end =
      let g = last d refl in
      let one : g.row ≡ h.row =
      sym (get_or_at g.before g.row g.after h.row at g.place)
      ∙ ap (λ l. get_or l at h.row) (sym g.whole ∙ h.whole)
      ∙ get_or_at h.before h.row h.after h.row at h.place in
      let p = and_parts (order g.row.fate == order d.entry.fate) (same g.row.name d.name) g.is in
      let f : d.entry.fate ≡ e.entry.fate =
      one_fate d.entry.fate e.entry.fate
      (sym (eqb-true (order g.row.fate) (order d.entry.fate) p.0)
      ∙ ap (λ r. order r.fate) one ∙ ap order h.fate) in
      let n : name_after (Some d) e ≡ d.name =
      by e.entry.is_end _ end (eq-eqb (order d.entry.fate) (order e.entry.fate) (ap order f)) in
      subst (λ k. IsRowOf same rows at e.entry.fate k) (sym n)
      (subst (λ k. IsRowOf same rows at k d.name) f g)
    where
      by : (t u : Bool) → t ≡ true → u ≡ true → (if t && u then d.name else e.name) ≡ d.name
      by true true h k = refl
      by true false h k = absurd cc
      by false u h k = absurd cc

some_last : {N : Type 0} (e : Named N) (es : List (Named N)) → last_of (Some e) es ≡ None → ⊥
some_last e [] h = cc
some_last e (x ∷ es) h = some_last x es h

none_last : {N : Type 0} (es : List (Named N)) → last_of None es ≡ None → es ≡ []
none_last [] h = refl
none_last (e ∷ es) h = absurd (some_last e es h)

module _ {N A : Type 0} (same : N → N → Bool) (eq : IsEquivalence same) (t : Table N A)
    (es : List (Named N)) (has : HasRowsOf same t es) (e : Named N) where
  -- a terminator goes to the row of the entry before it, where that has its fate
  pub ends_row : IsRow t.rows.items t.last e.entry.fate → e.entry.is_end ≡ true
      → GoesTo same t.rows.items t.rows.items t.last (after_these es e)
  ends_row h end =
      found_row same eq t.rows.items t.last (after_these es e)
      (takes_name same t.rows.items t.last (last_of None (joined_entries es)) e has.last h
      (λ none. has.rows ∙ ap (rows_of same) (none_last (joined_entries es) none)) end)

  -- the name stays, where the entry ends nothing, or a row of another fate came last
  pub stays_so : (rows : List (Row N)) (at : ℕ)
      → (e.entry.is_end ≡ true → IsOther t.rows.items t.last e.entry.fate)
      → GoesTo same t.rows.items rows at e
      → GoesTo same t.rows.items rows at (after_these es e)
  stays_so rows at other h =
      let P : Named N → Type 0 = λ d. GoesTo same t.rows.items rows at d in
      subst P (sym (by e.entry.is_end refl other)) h
    where
      by : (b : Bool) → b ≡ e.entry.is_end
          → (b ≡ true → IsOther t.rows.items t.last e.entry.fate) → after_these es e ≡ e
      by true is other =
          keeps_name same t.rows.items t.last (last_of None (joined_entries es)) e has.last
          (other refl)
      by false is other =
          no_end same t.rows.items t.last (last_of None (joined_entries es)) e (sym is)

  pub stays_ok : {E : Type 0} (rows : List (Row N)) (r : Result ℕ E)
      → (e.entry.is_end ≡ true → IsOther t.rows.items t.last e.entry.fate)
      → IfOk r (λ at. GoesTo same t.rows.items rows at e)
      → IfOk r (λ at. GoesTo same t.rows.items rows at (after_these es e))
  stays_ok rows (Ok at) other h = stays_so rows at other h
  stays_ok rows (Err x) other h = tt

  pub added_rows : (rows : List (Row N)) (at n m : ℕ) (u : Table N A)
      → (h : GoesTo same t.rows.items rows at (after_these es e))
      → u.rows.items ≡ h.row.before ++ row_plus h.row.row n m ∷ h.row.after → u.last ≡ at
      → n ≡ things e.entry → m ≡ length e.entry.bytes → HasRowsOf same u (es ++ e ∷ [])
  added_rows rows at n m u h is last en em = record {
    rows =
        one_goes same eq (joined_entries es) t.rows.items rows u.rows.items at
        (after_these es e) n m
        has.rows h is en em
        ∙ ap (rows_of same) (sym (joined_more None es e));
    last = λ d k.
        let one : after_these es e ≡ d =
        by d (sym (last_more None (joined_entries es) (after_these es e))
        ∙ ap (last_of None) (sym (joined_more None es e)) ∙ k) in
        let P : Named N → Type 0 =
        λ d. IsRowOf same u.rows.items u.last d.entry.fate d.name in
        subst P one
        (subst (λ i. IsRowOf same u.rows.items i e.entry.fate (after_these es e).name) (sym last)
        (goes_on same eq rows u.rows.items at (after_these es e) n m h.row is));
  }
    where
      by : (d : Named N) → Some (after_these es e) ≡ Some d → after_these es e ≡ d
      by d k = cc

-- the row here, of this fate or not
pub is_other : {N : Type 0} (rows : List (Row N)) (at : ℕ) (r : Row N) (f : Fate)
    → r ≡ get_or rows at r → (order r.fate == order f) ≡ false → IsOther rows at f
is_other rows at r f is other = λ before after k whole place.
    ap (λ l. order l.fate == order f)
    (sym (get_or_at before k after r at place) ∙ ap (λ l. get_or l at r) (sym whole) ∙ sym is)
    ∙ other

pub none_past : {N : Type 0} (rows : List (Row N)) (at : ℕ) (f : Fate) → length rows ≤ at
    → IsOther rows at f
none_past rows at f h = λ before after k whole place.
    absurd (omega (arith, h, place, ap length whole, length-append before (k ∷ after)))

cut_at : {X : Type 0} (xs : List X) (i : ℕ) (y : X) → i < length xs → y ≡ get_or xs i y
    → (xs ≡ take i xs ++ y ∷ drop (suc i) xs) × (length (take i xs) ≡ i)
cut_at [] i y few is = absurd (omega (arith, few))
cut_at (x ∷ xs) zero y few is = (ap (λ v. v ∷ xs) (sym is), refl)
cut_at (x ∷ xs) (suc i) y few is =
    let h = cut_at xs i y (omega (arith, few)) is in
    (ap (λ v. x ∷ v) h.0, ap suc h.1)

-- the first row that has them
pub row_found : {N : Type 0} (same : N → N → Bool) (rows : List (Row N)) (at : ℕ) (r : Row N)
    (f : Fate) (n : N) → at < length rows → r ≡ get_or rows at r
    → has_row same (take at rows) f n ≡ false → is_row same r f n ≡ true
    → IsRowOf same rows at f n
row_found same rows at r f n few here none is =
    let h = cut_at rows at r few here in record {
      before = take at rows;
      row = r;
      after = drop (suc at) rows;
      whole = h.0;
      place = h.1;
      none = none;
      is = is;
    }

pub row_fated : {N : Type 0} (same : N → N → Bool) (rows : List (Row N)) (at : ℕ) (f : Fate)
    (n : N) → IsRowOf same rows at f n → IsRow rows at f
row_fated same rows at f n h = record {
  before = h.before;
  row = h.row;
  after = h.after;
  whole = h.whole;
  place = h.place;
  fate =
      let p = and_parts (order h.row.fate == order f) (same h.row.name n) h.is in
      one_fate h.row.fate f (eqb-true (order h.row.fate) (order f) p.0);
}
