-- Tables of what did not pass: a row for each fate and name.
use Rattle.std.specs.Prelude.{ℕ, ◌≡◌, ◌+◌, ◌-◌, ◌<◌, ◌^◌, if◌then◌else◌, List, [], ◌∷◌, ◌++◌, length, min}
use Rattle.esc_account.specs.Entries.{Entry, bytes_with, part}
use Rattle.esc_account.specs.declared.fate.Fate.{Fate}
use Rattle.esc_account.specs.declared.row.Row.{Row}
use Rattle.esc_account.specs.declared.table.Table.{Table}

-- the sum of the rows of this fate, by this measure
abbrev pub rows_with : {N : Type 0} → (Row N → ℕ) → Fate → List (Row N) → ℕ
rows_with m f [] = 0
rows_with m f (r ∷ rs) = part f r.fate (m r) + rows_with m f rs

-- how many bytes they have
abbrev pub row_bytes : {N : Type 0} → Fate → List (Row N) → ℕ
row_bytes f rows = rows_with (λ r. r.bytes) f rows

-- how many things they have
abbrev pub row_count : {N : Type 0} → Fate → List (Row N) → ℕ
row_count f rows = rows_with (λ r. r.count) f rows

-- an entry is one thing, but the terminator of a string is a part of it
abbrev pub things : Entry → ℕ
things e = if e.is_end then 0 else 1

-- how many things of this fate there are among entries
abbrev pub things_with : Fate → List Entry → ℕ
things_with f [] = 0
things_with f (e ∷ es) = part f e.fate (things e) + things_with f es

-- The rows have all that these entries have of each fate, as long as that can be counted.
pub record HasAllRows {N : Type 0} (rows : List (Row N)) (es : List Entry) : Type 0 where
  pub bytes : (f : Fate) → bytes_with f es < 2 ^ 64 → row_bytes f rows ≡ bytes_with f es
  pub count : (f : Fate) → things_with f es < 2 ^ 64 → row_count f rows ≡ things_with f es

abbrev pub HasAll : {N A : Type 0} → Table N A → List Entry → Type 0
HasAll t es = HasAllRows t.rows.items es

-- the row here has this fate
pub record IsRow {N : Type 0} (rows : List (Row N)) (at : ℕ) (f : Fate) : Type 0 where
  pub before : List (Row N)
  pub row : Row N
  pub after : List (Row N)
  pub whole : rows ≡ before ++ row ∷ after
  pub place : length before ≡ at
  pub fate : row.fate ≡ f

-- they have as much of each fate
abbrev pub SameRows : {N : Type 0} → List (Row N) → List (Row N) → Type 0
SameRows rows others = (f : Fate) → (row_bytes f others ≡ row_bytes f rows)
    × (row_count f others ≡ row_count f rows)

-- so much, but no more than can be counted
abbrev pub sum_up_to : ℕ → ℕ → ℕ
sum_up_to a b = min (a + b) (2 ^ 64 - 1)

-- the row with so many things and bytes more
abbrev pub row_plus : {N : Type 0} → Row N → ℕ → ℕ → Row N
row_plus r n m = record r { count = sum_up_to r.count n; bytes = sum_up_to r.bytes m }
