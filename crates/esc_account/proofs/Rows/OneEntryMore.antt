-- The rows of entries, and of one entry more.
use Rattle.std.proofs.Common.{ℕ, ◌≡◌, ◌+◌, ◌==◌, ◌&&◌, ◌||◌, Bool, true, false, if◌then◌else◌, List, [], ◌∷◌, ◌++◌, length, map, refl, sym, ap, ◌∙◌, arith}
use Rattle.std.proofs.lemmas.Bool.{and_parts, eqb-true, eq-eqb, or_parts, or_from}
use Rattle.std.proofs.lemmas.List.{append-nil, map-append}
use Rattle.std.proofs.lemmas.List.Elements.{filter-append}
use Rattle.std.specs.Cmp.{IsEquivalence}
use Rattle.std.specs.List.{filter, list_any}
use Rattle.esc_account.specs.Entries.{order}
use Rattle.esc_account.specs.Rows.{GoesTo, IsRowOf, Named, are_one, begun, bytes_in, firsts, firsts_after, has_row, is_row, row_of, rows_for, rows_of, things_in, up_to_most}
use Rattle.esc_account.specs.Tables.{row_plus, sum_up_to, things}
use Rattle.esc_account.specs.declared.fate.Fate.{Fate}
use Rattle.esc_account.specs.declared.row.Row.{Row}

-- ---- tests

either_way : (a b : Bool) → (a ≡ true → b ≡ true) → (b ≡ true → a ≡ true) → a ≡ b
either_way true b f g = sym (f refl)
either_way false true f g = g refl
either_way false false f g = refl

both : (a b : Bool) → a ≡ true → b ≡ true → (a && b) ≡ true
both a b e f = ap (λ t. t && b) e ∙ f

turned : (a b c : Bool) → (a || (b || c)) ≡ ((b || a) || c)
turned true true c = refl
turned true false c = refl
turned false true c = refl
turned false false c = refl

module _ {N : Type 0} (same : N → N → Bool) (eq : IsEquivalence same) where
  one_self : (a : Named N) → are_one same a a ≡ true
  one_self a =
      both _ _ (eq-eqb (order a.entry.fate) (order a.entry.fate) refl) (eq.refl a.name)

  one_symm : (a b : Named N) → are_one same a b ≡ true → are_one same b a ≡ true
  one_symm a b h =
      let p = and_parts (order a.entry.fate == order b.entry.fate) (same a.name b.name) h in
      both _ _
      (eq-eqb (order b.entry.fate) (order a.entry.fate)
      (sym (eqb-true (order a.entry.fate) (order b.entry.fate) p.0)))
      (eq.symm b.name a.name ∙ p.1)

  one_trans : (a b c : Named N) → are_one same a b ≡ true → are_one same b c ≡ true
      → are_one same a c ≡ true
  one_trans a b c h k =
      let p = and_parts (order a.entry.fate == order b.entry.fate) (same a.name b.name) h in
      let q = and_parts (order b.entry.fate == order c.entry.fate) (same b.name c.name) k in
      both _ _
      (eq-eqb (order a.entry.fate) (order c.entry.fate)
      (eqb-true (order a.entry.fate) (order b.entry.fate) p.0
      ∙ eqb-true (order b.entry.fate) (order c.entry.fate) q.0))
      (eq.congr a.name b.name c.name p.1 ∙ q.1)

  one_congr : (a b c : Named N) → are_one same a b ≡ true
      → are_one same a c ≡ are_one same b c
  one_congr a b c h =
      either_way (are_one same a c) (are_one same b c)
      (λ k. one_trans b a c (one_symm a b h) k) (λ k. one_trans a b c h k)

  any_congr : (a b : Named N) (es : List (Named N)) → are_one same a b ≡ true
      → list_any (are_one same a) es ≡ list_any (are_one same b) es
  any_congr a b [] h = refl
  any_congr a b (e ∷ es) h =
      ap (λ t. t || list_any (are_one same a) es) (one_congr a b e h)
      ∙ ap (λ t. are_one same b e || t) (any_congr a b es h)

  -- ---- the first of each

  firsts_more : (before es : List (Named N)) (e : Named N)
      → firsts_after same before (es ++ e ∷ [])
      ≡ firsts_after same before es ++ (if list_any (are_one same e) es
      || list_any (are_one same e) before then [] else e ∷ [])
  firsts_more before [] e = by (list_any (are_one same e) before)
    where
      by : (t : Bool) → (if t then [] else e ∷ []) ≡ (if t then [] else e ∷ [])
      by t = refl
  firsts_more before (x ∷ es) e =
      by (list_any (are_one same x) before)
      (firsts_more (x ∷ before) es e
      ∙ ap (λ t. firsts_after same (x ∷ before) es ++ (if t then [] else e ∷ []))
      (turned (list_any (are_one same e) es) (are_one same e x)
      (list_any (are_one same e) before)))
    where
      tail : List (Named N)
      tail = if (are_one same e x || list_any (are_one same e) es)
          || list_any (are_one same e) before then [] else e ∷ []

      by : (t : Bool)
          → firsts_after same (x ∷ before) (es ++ e ∷ [])
          ≡ firsts_after same (x ∷ before) es ++ tail
          → (if t then firsts_after same (x ∷ before) (es ++ e ∷ [])
          else x ∷ firsts_after same (x ∷ before) (es ++ e ∷ []))
          ≡ (if t then firsts_after same (x ∷ before) es
          else x ∷ firsts_after same (x ∷ before) es) ++ tail
      by true h = h
      by false h = ap (λ l. x ∷ l) h

  firsts_any : (before es : List (Named N)) (e : Named N)
      → list_any (are_one same e) before ≡ false
      → list_any (λ f. are_one same f e) (firsts_after same before es)
      ≡ list_any (are_one same e) es
  firsts_any before [] e none = refl
  firsts_any before (x ∷ es) e none =
      by (λ h. firsts_any (x ∷ before) es e (or_from _ _ h none))
      (list_any (are_one same x) before) (are_one same e x) refl refl
    where
      by : (are_one same e x ≡ false
          → list_any (λ f. are_one same f e) (firsts_after same (x ∷ before) es)
          ≡ list_any (are_one same e) es)
          → (t u : Bool) → list_any (are_one same x) before ≡ t → are_one same e x ≡ u
          → list_any (λ f. are_one same f e)
          (if t then firsts_after same (x ∷ before) es
          else x ∷ firsts_after same (x ∷ before) es)
          ≡ (u || list_any (are_one same e) es)
      by rest true true h k =
          let z : true ≡ false = sym h ∙ sym (any_congr e x before k) ∙ none in absurd cc
      by rest true false h k = rest k
      by rest false true h k = rw (one_symm e x k) refl
      by rest false false h k =
          rw (either_way (are_one same x e) (are_one same e x) (one_symm x e) (one_symm e x)
          ∙ k) (rest k)

  -- no two have one fate and name, nor any that was seen
  abbrev Apart : (Named N → Bool) → List (Named N) → Type 0
  Apart seen [] = Unit {0}
  Apart seen (f ∷ fs) =
      (seen f ≡ false) × Apart (λ g. are_one same g f || seen g) fs

  apart_less : (seen less : Named N → Bool) (fs : List (Named N))
      → ((g : Named N) → seen g ≡ false → less g ≡ false) → Apart seen fs → Apart less fs
  apart_less seen less [] h a = tt
  apart_less seen less (f ∷ fs) h a = (
    h f a.0,
    apart_less (λ g. are_one same g f || seen g) (λ g. are_one same g f || less g) fs
        (λ g k. let p = or_parts (are_one same g f) (seen g) k in or_from _ _ p.0 (h g p.1))
        a.1,
  )

  firsts_apart : (before es : List (Named N))
      → Apart (λ g. list_any (are_one same g) before) (firsts_after same before es)
  firsts_apart before [] = tt
  firsts_apart before (x ∷ es) =
      by (list_any (are_one same x) before) refl (firsts_apart (x ∷ before) es)
    where
      by : (t : Bool) → list_any (are_one same x) before ≡ t
          → Apart (λ g. list_any (are_one same g) (x ∷ before)) (firsts_after same (x ∷ before) es)
          → Apart (λ g. list_any (are_one same g) before)
          (if t then firsts_after same (x ∷ before) es
          else x ∷ firsts_after same (x ∷ before) es)
      by true h a =
          apart_less (λ g. list_any (are_one same g) (x ∷ before))
          (λ g. list_any (are_one same g) before) (firsts_after same (x ∷ before) es)
          (λ g k. (or_parts (are_one same g x) (list_any (are_one same g) before) k).1) a
      by false h a = (h, a)

  -- ---- a row of one entry more

  things_both : (xs ys : List (Named N)) → things_in (xs ++ ys) ≡ things_in xs + things_in ys
  things_both [] ys = omega arith
  things_both (x ∷ xs) ys = omega (arith, things_both xs ys)

  bytes_both : (xs ys : List (Named N)) → bytes_in (xs ++ ys) ≡ bytes_in xs + bytes_in ys
  bytes_both [] ys = omega arith
  bytes_both (x ∷ xs) ys = omega (arith, bytes_both xs ys)

  abbrev pub more : Named N → Row N → Row N
  more e r = row_plus r (things e.entry) (length e.entry.bytes)

  abbrev row_with : Named N → ℕ → ℕ → Row N
  row_with f n m = record {
    fate = f.entry.fate;
    name = f.name;
    count = n;
    bytes = m;
    first = record { byte = f.entry.place; line = f.entry.line };
  }

  row_more : (es : List (Named N)) (e f : Named N)
      → row_of same (es ++ e ∷ []) f
      ≡ (if are_one same f e then more e (row_of same es f) else row_of same es f)
  row_more es e f =
      ap (λ l. row_with f (up_to_most (things_in l)) (up_to_most (bytes_in l)))
      (filter-append (are_one same f) es (e ∷ []))
      ∙ by (are_one same f e)
    where
      mine : List (Named N)
      mine = filter (are_one same f) es

      by : (t : Bool)
          → row_with f (up_to_most (things_in (mine ++ (if t then e ∷ [] else []))))
          (up_to_most (bytes_in (mine ++ (if t then e ∷ [] else []))))
          ≡ (if t then more e (row_with f (up_to_most (things_in mine))
          (up_to_most (bytes_in mine)))
          else row_with f (up_to_most (things_in mine)) (up_to_most (bytes_in mine)))
      by true =
          let a : up_to_most (things_in (mine ++ e ∷ []))
          ≡ sum_up_to (up_to_most (things_in mine)) (things e.entry) =
          omega (arith, things_both mine (e ∷ [])) in
          let b : up_to_most (bytes_in (mine ++ e ∷ []))
          ≡ sum_up_to (up_to_most (bytes_in mine)) (length e.entry.bytes) =
          omega (arith, bytes_both mine (e ∷ [])) in
          ap (λ n. row_with f n (up_to_most (bytes_in (mine ++ e ∷ [])))) a
          ∙ ap (row_with f (sum_up_to (up_to_most (things_in mine)) (things e.entry))) b
      by false =
          let a : up_to_most (things_in (mine ++ [])) ≡ up_to_most (things_in mine) =
          omega (arith, things_both mine []) in
          let b : up_to_most (bytes_in (mine ++ [])) ≡ up_to_most (bytes_in mine) =
          omega (arith, bytes_both mine []) in
          ap (λ n. row_with f n (up_to_most (bytes_in (mine ++ [])))) a
          ∙ ap (row_with f (up_to_most (things_in mine))) b

  -- ---- the rows of one entry more

  -- the first of these of the fate and name of the entry is of it too
  abbrev pub with_more : Named N → List (Row N) → List (Row N)
  with_more e [] = []
  with_more e (r ∷ rows) =
      if is_row same r e.entry.fate e.name then more e r ∷ rows else r ∷ with_more e rows

  rows_have : (es fs : List (Named N)) (e : Named N)
      → has_row same (map (row_of same es) fs) e.entry.fate e.name
      ≡ list_any (λ f. are_one same f e) fs
  rows_have es [] e = refl
  rows_have es (f ∷ fs) e = ap (λ t. are_one same f e || t) (rows_have es fs e)

  -- rows of other names are as they were
  others_same : (es : List (Named N)) (e : Named N) (seen : Named N → Bool)
      (fs : List (Named N)) → Apart seen fs
      → ((g : Named N) → seen g ≡ false → are_one same g e ≡ false)
      → map (row_of same (es ++ e ∷ [])) fs ≡ map (row_of same es) fs
  others_same es e seen [] a h = refl
  others_same es e seen (f ∷ fs) a h =
      let here : row_of same (es ++ e ∷ []) f ≡ row_of same es f =
      row_more es e f ∙ ap (λ t. if t then more e (row_of same es f) else row_of same es f)
      (h f a.0) in
      ap (λ r. r ∷ map (row_of same (es ++ e ∷ [])) fs) here
      ∙ ap (λ l. row_of same es f ∷ l)
      (others_same es e (λ g. are_one same g f || seen g) fs a.1
      (λ g k. h g (or_parts (are_one same g f) (seen g) k).1))

  one_more : (es : List (Named N)) (e : Named N) (seen : Named N → Bool)
      (fs : List (Named N)) → Apart seen fs → list_any (λ f. are_one same f e) fs ≡ true
      → map (row_of same (es ++ e ∷ [])) fs ≡ with_more e (map (row_of same es) fs)
  one_more es e seen [] a h = absurd cc
  one_more es e seen (f ∷ fs) a h =
      ap (λ r. r ∷ map (row_of same (es ++ e ∷ [])) fs) (row_more es e f)
      ∙ by
      (λ k. one_more es e (λ g. are_one same g f || seen g) fs a.1
      (ap (λ t. t || list_any (λ g. are_one same g e) fs) (sym k) ∙ h))
      (are_one same f e) refl
    where
      by : (are_one same f e ≡ false
          → map (row_of same (es ++ e ∷ [])) fs ≡ with_more e (map (row_of same es) fs))
          → (t : Bool) → are_one same f e ≡ t
          → (if t then more e (row_of same es f) else row_of same es f)
          ∷ map (row_of same (es ++ e ∷ [])) fs
          ≡ (if t then more e (row_of same es f) ∷ map (row_of same es) fs
          else row_of same es f ∷ with_more e (map (row_of same es) fs))
      by rest true k =
          ap (λ l. more e (row_of same es f) ∷ l)
          (others_same es e (λ g. are_one same g f || seen g) fs a.1
          (λ g n. let p = or_parts (are_one same g f) (seen g) n in
          either_way (are_one same g e) false
          (λ m. let z : true ≡ false = sym (one_trans g e f m (one_symm f e k)) ∙ p.0 in
          absurd cc) (λ z. absurd cc)))
      by rest false k = ap (λ l. row_of same es f ∷ l) (rest k)

  none_mine : (e : Named N) (es : List (Named N)) → list_any (are_one same e) es ≡ false
      → filter (are_one same e) es ≡ []
  none_mine e [] h = refl
  none_mine e (x ∷ es) h =
      let p = or_parts (are_one same e x) (list_any (are_one same e) es) h in
      rw p.0 (none_mine e es p.1)

  row_begins : (es : List (Named N)) (e : Named N) → list_any (are_one same e) es ≡ false
      → row_of same es e ≡ begun e
  row_begins es e h =
      ap (λ l. row_with e (up_to_most (things_in l)) (up_to_most (bytes_in l)))
      (none_mine e es h)

  -- at the end, where no row is of its fate and name
  end_more : (e : Named N) (rows : List (Row N)) (r : Row N)
      → has_row same rows e.entry.fate e.name ≡ false → is_row same r e.entry.fate e.name ≡ true
      → with_more e (rows ++ r ∷ []) ≡ rows ++ more e r ∷ []
  end_more e [] r h k = rw k refl
  end_more e (x ∷ rows) r h k =
      let p =
      or_parts (is_row same x e.entry.fate e.name) (has_row same rows e.entry.fate e.name) h in
      rw p.0 (ap (λ l. x ∷ l) (end_more e rows r p.1 k))

  seen_none : (es : List (Named N)) (e : Named N) → list_any (are_one same e) es ≡ false
      → (fs : List (Named N)) → list_any (λ f. are_one same f e) fs ≡ false
      → map (row_of same (es ++ e ∷ [])) fs ≡ map (row_of same es) fs
  seen_none es e h [] k = refl
  seen_none es e h (f ∷ fs) k =
      let p = or_parts (are_one same f e) (list_any (λ g. are_one same g e) fs) k in
      let here : row_of same (es ++ e ∷ []) f ≡ row_of same es f =
      row_more es e f ∙ ap (λ t. if t then more e (row_of same es f) else row_of same es f)
      p.0 in
      ap (λ r. r ∷ map (row_of same (es ++ e ∷ [])) fs) here
      ∙ ap (λ l. row_of same es f ∷ l) (seen_none es e h fs p.1)

  pub rows_more : (es : List (Named N)) (e : Named N)
      → rows_of same (es ++ e ∷ []) ≡ with_more e (rows_for same (rows_of same es) e)
  rows_more es e =
      ap (map (row_of same (es ++ e ∷ []))) (firsts_more [] es e)
      ∙ by (list_any (are_one same e) es) refl
    where
      fs : List (Named N)
      fs = firsts same es

      any_is : list_any (λ f. are_one same f e) fs ≡ list_any (are_one same e) es
      any_is = firsts_any [] es e refl

      have_is : has_row same (rows_of same es) e.entry.fate e.name ≡ list_any (are_one same e) es
      have_is = rows_have es fs e ∙ any_is

      by : (t : Bool) → list_any (are_one same e) es ≡ t
          → map (row_of same (es ++ e ∷ [])) (fs ++ (if t || false then [] else e ∷ []))
          ≡ with_more e (rows_for same (rows_of same es) e)
      by true h =
          let k : has_row same (rows_of same es) e.entry.fate e.name ≡ true = have_is ∙ h in
          rw k
          (ap (map (row_of same (es ++ e ∷ []))) (append-nil fs)
          ∙ one_more es e (λ g. false) fs (firsts_apart [] es) (any_is ∙ h))
      by false h =
          let k : has_row same (rows_of same es) e.entry.fate e.name ≡ false = have_is ∙ h in
          let last : row_of same (es ++ e ∷ []) e ≡ more e (begun e) =
          row_more es e e
          ∙ ap (λ t. if t then more e (row_of same es e) else row_of same es e) (one_self e)
          ∙ ap (more e) (row_begins es e h) in
          rw k
          (map-append (row_of same (es ++ e ∷ [])) fs (e ∷ [])
          ∙ ap (λ r. map (row_of same (es ++ e ∷ [])) fs ++ r ∷ []) last
          ∙ ap (λ l. l ++ more e (begun e) ∷ []) (seen_none es e h fs (any_is ∙ h))
          ∙ sym (end_more e (rows_of same es) (begun e) k (one_self e)))

  -- ---- the row of an entry

  -- a row of so much more keeps its fate and name
  pub goes_on : (rows others : List (Row N)) (at : ℕ) (e : Named N) (n m : ℕ)
      → (h : IsRowOf same rows at e.entry.fate e.name)
      → others ≡ h.before ++ row_plus h.row n m ∷ h.after
      → IsRowOf same others at e.entry.fate e.name
  goes_on rows others at e n m h is = record {
    before = h.before;
    row = row_plus h.row n m;
    after = h.after;
    whole = is;
    place = h.place;
    none = h.none;
    is = h.is;
  }

  more_at : (before after : List (Row N)) (r : Row N) (e : Named N)
      → has_row same before e.entry.fate e.name ≡ false → is_row same r e.entry.fate e.name ≡ true
      → before ++ more e r ∷ after ≡ with_more e (before ++ r ∷ after)
  more_at [] after r e none is = rw is refl
  more_at (x ∷ before) after r e none is =
      let p =
      or_parts (is_row same x e.entry.fate e.name) (has_row same before e.entry.fate e.name)
      none in
      rw p.0 (ap (λ l. x ∷ l) (more_at before after r e p.1 is))

  pub written_more : (rows others : List (Row N)) (at : ℕ) (e : Named N) (n m : ℕ)
      → (h : IsRowOf same rows at e.entry.fate e.name)
      → others ≡ h.before ++ row_plus h.row n m ∷ h.after
      → n ≡ things e.entry → m ≡ length e.entry.bytes → others ≡ with_more e rows
  written_more rows others at e n m h is en em =
      is ∙ ap (λ k. h.before ++ row_plus h.row k m ∷ h.after) en
      ∙ ap (λ k. h.before ++ row_plus h.row (things e.entry) k ∷ h.after) em
      ∙ more_at h.before h.after h.row e h.none h.is ∙ ap (with_more e) (sym h.whole)

  at_end : (rows after : List (Row N)) (r : Row N) (f : Fate) (n : N) → is_row same r f n ≡ true
      → has_row same (rows ++ r ∷ after) f n ≡ true
  at_end [] after r f n is = rw is refl
  at_end (x ∷ rows) after r f n is = by (is_row same x f n) (at_end rows after r f n is)
    where
      by : (t : Bool) → has_row same (rows ++ r ∷ after) f n ≡ true
          → (t || has_row same (rows ++ r ∷ after) f n) ≡ true
      by true h = refl
      by false h = h

  pub row_is : (rows : List (Row N)) (at : ℕ) (f : Fate) (n : N) → IsRowOf same rows at f n
      → has_row same rows f n ≡ true
  row_is rows at f n h =
      ap (λ l. has_row same l f n) h.whole ∙ at_end h.before h.after h.row f n h.is

  had_row : (rows : List (Row N)) (at : ℕ) (e : Named N)
      → IsRowOf same rows at e.entry.fate e.name → rows ≡ rows_for same rows e
  had_row rows at e h =
      let k : has_row same rows e.entry.fate e.name ≡ true =
      row_is rows at e.entry.fate e.name h in
      rw k refl

  pub begins_row : (rows others : List (Row N)) (n : ℕ) (e : Named N)
      → has_row same rows e.entry.fate e.name ≡ false → others ≡ rows ++ begun e ∷ []
      → n ≡ length rows → GoesTo same rows others n e
  begins_row rows others n e none is place = record {
    row = record {
      before = rows;
      row = begun e;
      after = [];
      whole = is;
      place = sym place;
      none = none;
      is = one_self e;
    };
    all = rw none is;
  }

  pub found_row : (rows : List (Row N)) (at : ℕ) (e : Named N)
      → IsRowOf same rows at e.entry.fate e.name → GoesTo same rows rows at e
  found_row rows at e h = record { row = h; all = had_row rows at e h }

  -- the rows of an entry more, which goes to the row here
  pub one_goes : (es : List (Named N)) (old rows others : List (Row N)) (at : ℕ) (e : Named N)
      (n m : ℕ) → old ≡ rows_of same es → (h : GoesTo same old rows at e)
      → others ≡ h.row.before ++ row_plus h.row.row n m ∷ h.row.after
      → n ≡ things e.entry → m ≡ length e.entry.bytes → others ≡ rows_of same (es ++ e ∷ [])
  one_goes es old rows others at e n m was h is en em =
      written_more rows others at e n m h.row is en em
      ∙ ap (with_more e) (h.all ∙ ap (λ l. rows_for same l e) was) ∙ sym (rows_more es e)
