-- The rows of a report: one for each fate and name that occurs, in the order of the first of each.
use Rattle.std.specs.Prelude.{ℕ, ◌≡◌, ◌+◌, ◌-◌, ◌==◌, ◌^◌, ◌&&◌, ◌⊎◌, Bool, true, false, if◌then◌else◌, List, [], ◌∷◌, ◌++◌, length, map, min, Option, None, Some}
use Rattle.std.specs.List.{filter, list_any}
use Rattle.esc_account.specs.Entries.{Entry, order}
use Rattle.esc_account.specs.Tables.{things}
use Rattle.esc_account.specs.declared.fate.Fate.{Fate}
use Rattle.esc_account.specs.declared.row.Row.{Row}
use Rattle.esc_account.specs.declared.table.Table.{Table}

-- an entry that has this name
pub record Named (N : Type 0) : Type 0 where
  pub name : N
  pub entry : Entry

abbrev pub under : {N : Type 0} → N → Entry → Named N
under n e = record { name = n; entry = e }

-- they have one fate and, by this test, one name
abbrev pub are_one : {N : Type 0} → (N → N → Bool) → Named N → Named N → Bool
are_one same a b = (order a.entry.fate == order b.entry.fate) && same a.name b.name

-- the first of each fate and name, but for those of which some came before
abbrev pub firsts_after : {N : Type 0} → (N → N → Bool) → List (Named N) → List (Named N)
    → List (Named N)
firsts_after same before [] = []
firsts_after same before (e ∷ es) =
    if list_any (are_one same e) before then firsts_after same (e ∷ before) es
    else e ∷ firsts_after same (e ∷ before) es

abbrev pub firsts : {N : Type 0} → (N → N → Bool) → List (Named N) → List (Named N)
firsts same es = firsts_after same [] es

-- how many things they are
abbrev pub things_in : {N : Type 0} → List (Named N) → ℕ
things_in [] = 0
things_in (e ∷ es) = things e.entry + things_in es

-- how many bytes they have
abbrev pub bytes_in : {N : Type 0} → List (Named N) → ℕ
bytes_in [] = 0
bytes_in (e ∷ es) = length e.entry.bytes + bytes_in es

-- so many, but no more than can be counted
abbrev pub up_to_most : ℕ → ℕ
up_to_most n = min n (2 ^ 64 - 1)

-- the row of the fate and name of e, which is the first of these that has them: what all of these
-- have that have them, and where the first is
abbrev pub row_of : {N : Type 0} → (N → N → Bool) → List (Named N) → Named N → Row N
row_of same es e = record {
  fate = e.entry.fate;
  name = e.name;
  count = up_to_most (things_in (filter (are_one same e) es));
  bytes = up_to_most (bytes_in (filter (are_one same e) es));
  first = record { byte = e.entry.place; line = e.entry.line };
}

-- There is one for each fate and name, in the order of the first of each.
abbrev pub rows_of : {N : Type 0} → (N → N → Bool) → List (Named N) → List (Row N)
rows_of same es = map (row_of same es) (firsts same es)

-- ---- terminators

-- the terminator of a string goes under the name of the entry before it, where that has its fate
abbrev pub name_after : {N : Type 0} → Option (Named N) → Named N → N
name_after None e = e.name
name_after (Some b) e =
    if e.entry.is_end && (order b.entry.fate == order e.entry.fate) then b.name else e.name

abbrev pub joined_to : {N : Type 0} → Option (Named N) → Named N → Named N
joined_to b e = under (name_after b e) e.entry

abbrev pub joined_after : {N : Type 0} → Option (Named N) → List (Named N) → List (Named N)
joined_after b [] = []
joined_after b (e ∷ es) = joined_to b e ∷ joined_after (Some (joined_to b e)) es

abbrev pub joined_entries : {N : Type 0} → List (Named N) → List (Named N)
joined_entries es = joined_after None es

-- the last of these
abbrev pub last_of : {N : Type 0} → Option (Named N) → List (Named N) → Option (Named N)
last_of b [] = b
last_of b (e ∷ es) = last_of (Some e) es

-- ---- tables

-- the row has this fate and, by this test, this name
abbrev pub is_row : {N : Type 0} → (N → N → Bool) → Row N → Fate → N → Bool
is_row same r f n = (order r.fate == order f) && same r.name n

abbrev pub has_row : {N : Type 0} → (N → N → Bool) → List (Row N) → Fate → N → Bool
has_row same rows f n = list_any (λ r. is_row same r f n) rows

-- the row here is the first that has them
pub record IsRowOf {N : Type 0} (same : N → N → Bool) (rows : List (Row N)) (at : ℕ) (f : Fate)
    (n : N) : Type 0 where
  pub before : List (Row N)
  pub row : Row N
  pub after : List (Row N)
  pub whole : rows ≡ before ++ row ∷ after
  pub place : length before ≡ at
  pub none : has_row same before f n ≡ false
  pub is : is_row same row f n ≡ true

-- no row here has this fate
abbrev pub IsOther : {N : Type 0} → List (Row N) → ℕ → Fate → Type 0
IsOther {N} rows at f = (before after : List (Row N)) (r : Row N)
    → rows ≡ before ++ r ∷ after → length before ≡ at → (order r.fate == order f) ≡ false

-- the row of this entry, to which nothing was added yet
abbrev pub begun : {N : Type 0} → Named N → Row N
begun e = record {
  fate = e.entry.fate;
  name = e.name;
  count = 0;
  bytes = 0;
  first = record { byte = e.entry.place; line = e.entry.line };
}

-- these rows, with one for the entry at the end where there is none
abbrev pub rows_for : {N : Type 0} → (N → N → Bool) → List (Row N) → Named N → List (Row N)
rows_for same rows e =
    if has_row same rows e.entry.fate e.name then rows else rows ++ begun e ∷ []

-- the entry goes to the row here, of these rows, which is new where there was none
pub record GoesTo {N : Type 0} (same : N → N → Bool) (old rows : List (Row N)) (at : ℕ)
    (e : Named N) : Type 0 where
  pub row : IsRowOf same rows at e.entry.fate e.name
  pub all : rows ≡ rows_for same old e

-- the table has the rows of these entries
pub record HasRowsOf {N A : Type 0} (same : N → N → Bool) (t : Table N A) (es : List (Named N))
    : Type 0 where
  pub rows : t.rows.items ≡ rows_of same (joined_entries es)
  pub last : (e : Named N) → last_of None (joined_entries es) ≡ Some e
      → IsRowOf same t.rows.items t.last e.entry.fate e.name

-- the entry, under the name that it has after these
abbrev pub after_these : {N : Type 0} → List (Named N) → Named N → Named N
after_these es e = joined_to (last_of None (joined_entries es)) e

abbrev pub names_in : {N : Type 0} → List (Row N) → List N
names_in rows = map (λ r. r.name) rows

-- the names of the rows stay, or none had this fate and name, and the name comes last
abbrev pub BeginsOne : {N : Type 0} → (N → N → Bool) → List (Row N) → List (Row N) → Fate → N
    → Type 0
BeginsOne same old new f n = (names_in new ≡ names_in old)
    ⊎ ((has_row same old f n ≡ false) × (names_in new ≡ names_in old ++ n ∷ []))
