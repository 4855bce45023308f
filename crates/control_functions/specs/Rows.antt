-- Tables of control functions.
use Rattle.std.specs.Prelude.{ℕ, ◌+◌, ◌-◌, ◌*◌, ◌%◌, ◌<◌, ◌≤◌, ◌==◌, if◌then◌else◌, List, [], ◌∷◌, take, drop, get_or, length, Option, Some, None}
use Rattle.esc_values.specs.Params.{is_from}

-- bytes as digits to the base 256, after those of n
abbrev pub base_256 : ℕ → List ℕ → ℕ
base_256 n [] = n
base_256 n (b ∷ bs) = base_256 (256 * n + b) bs

-- the function of the first of these rows that has this key
abbrev pub first_keyed : {R F : Type 0} → (R → ℕ) → (R → F) → List R → ℕ → Option F
first_keyed key of [] k = None
first_keyed key of (r ∷ rs) k = if key r == k then Some (of r) else first_keyed key of rs k

-- the rows of the group i; starts has the place of the first, and then that of the next group's
-- first
abbrev pub group : {R : Type 0} → List R → List ℕ → ℕ → List R
group rows starts i = take (get_or starts (i + 1) 0 - get_or starts i 0)
    (drop (get_or starts i 0) rows)

-- these places rise, up to the number of rows
abbrev pub Rise : List ℕ → ℕ → Type 0
Rise starts size = (i : ℕ) → i + 1 < length starts
    → (get_or starts i 0 ≤ get_or starts (i + 1) 0) × (get_or starts (i + 1) 0 ≤ size)

-- the function of the first row that has this key, if there is a group of rows for each byte from
-- first to `~`, and the row is in the group of the last byte of its key
abbrev pub first_grouped : {R F : Type 0} → (R → ℕ) → (R → F) → (ℕ → List R) → ℕ → ℕ → Option F
first_grouped key of rows_of first k = if is_from first 0x7e (k % 256)
    then first_keyed key of (rows_of (k % 256 - first)) k else None
