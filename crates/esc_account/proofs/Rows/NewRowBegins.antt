-- Which row a table begins for an entry.
use Rattle.std.proofs.Common.{◌≡◌, ◌==◌, ◌&&◌, inl, inr, Bool, true, false, if◌then◌else◌, List, [], ◌∷◌, ◌++◌, refl, sym, ap, ◌∙◌, subst, Option, Some, None}
use Rattle.std.proofs.lemmas.Bool.{eqb-true}
use Rattle.std.proofs.lemmas.List.{map-append}
use Rattle.std.specs.Cmp.{IsEquivalence}
use Rattle.esc_account.specs.Entries.{order}
use Rattle.esc_account.specs.Rows.{BeginsOne, HasRowsOf, Named, after_these, begun, has_row, is_row, joined_entries, joined_to, last_of, names_in, rows_for, rows_of, under}
use Rattle.esc_account.specs.declared.row.Row.{Row}
use Rattle.esc_account.specs.declared.table.Table.{Table}
use Rattle.esc_account.proofs.Rows.OneEntryMore.{more, row_is, rows_more, with_more}
use Rattle.esc_account.proofs.Rows.WhereEntryGoes.{joined_more, one_fate}

module _ {N : Type 0} (same : N → N → Bool) (eq : IsEquivalence same) where
  same_names : (e : Named N) (rows : List (Row N))
      → names_in (with_more same eq e rows) ≡ names_in rows
  same_names e [] = refl
  same_names e (r ∷ rows) =
      by (is_row same r e.entry.fate e.name)
      (ap (λ l. r.name ∷ l) (same_names e rows))
    where
      by : (t : Bool) → r.name ∷ names_in (with_more same eq e rows) ≡ r.name ∷ names_in rows
          → names_in (if t then more same eq e r ∷ rows else r ∷ with_more same eq e rows)
          ≡ r.name ∷ names_in rows
      by true h = refl
      by false h = h

module _ {N A : Type 0} (same : N → N → Bool) (eq : IsEquivalence same) where
  -- where the name is another's, that has a row
  renamed : (t : Table N A) (es : List (Named N)) (x : Named N) → HasRowsOf same t es
      → has_row same t.rows.items (after_these es x).entry.fate (after_these es x).name ≡ false
      → after_these es x ≡ x
  renamed t es x has none = by (last_of None (joined_entries es)) refl none
    where
      by : (b : Option (Named N)) → last_of None (joined_entries es) ≡ b
          → has_row same t.rows.items x.entry.fate (joined_to b x).name ≡ false
          → joined_to b x ≡ x
      by None is h = refl
      by (Some d) is h =
          name x.entry.is_end (order d.entry.fate == order x.entry.fate) refl h
        where
          name : (p q : Bool) → (order d.entry.fate == order x.entry.fate) ≡ q
              → has_row same t.rows.items x.entry.fate (if p && q then d.name else x.name)
              ≡ false → under (if p && q then d.name else x.name) x.entry ≡ x
          name true true one h =
              let f : d.entry.fate ≡ x.entry.fate =
              one_fate d.entry.fate x.entry.fate
              (eqb-true (order d.entry.fate) (order x.entry.fate) one) in
              let k : has_row same t.rows.items x.entry.fate d.name ≡ true =
              subst (λ g. has_row same t.rows.items g d.name ≡ true) f
              (row_is same eq t.rows.items t.last d.entry.fate d.name (has.last d is)) in
              let z : true ≡ false = sym k ∙ h in absurd cc
          name true false one h = refl
          name false q one h = refl

  -- the names of the rows stay, or the entry had no row, and its name stands at the end
  pub begins_one : (t u : Table N A) (es : List (Named N)) (x : Named N)
      → HasRowsOf same t es → HasRowsOf same u (es ++ x ∷ [])
      → BeginsOne same t.rows.items u.rows.items x.entry.fate x.name
  begins_one t u es x was is =
      by (has_row same t.rows.items e.entry.fate e.name) refl all
    where
      e : Named N
      e = after_these es x

      all : names_in u.rows.items ≡ names_in (rows_for same t.rows.items e)
      all =
          ap names_in
          (is.rows ∙ ap (rows_of same) (joined_more None es x)
          ∙ rows_more same eq (joined_entries es) e
          ∙ ap (λ l. with_more same eq e (rows_for same l e)) (sym was.rows))
          ∙ same_names same eq e (rows_for same t.rows.items e)

      by : (b : Bool) → has_row same t.rows.items e.entry.fate e.name ≡ b
          → names_in u.rows.items
          ≡ names_in (if b then t.rows.items else t.rows.items ++ begun e ∷ [])
          → BeginsOne same t.rows.items u.rows.items x.entry.fate x.name
      by true k h = inl h
      by false k h =
          let one : e ≡ x = renamed t es x was k in
          inr (
            subst (λ (d : Named N). has_row same t.rows.items d.entry.fate d.name ≡ false) one k,
            h ∙ map-append (λ r. r.name) t.rows.items (begun e ∷ [])
                ∙ ap (λ (d : Named N). names_in t.rows.items ++ d.name ∷ []) one,
          )
