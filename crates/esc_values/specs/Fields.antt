-- Keys with their values, and structs whose fields are each the value of a key. The list of a
-- struct's fields says once which keys it has, how each is read and written, and which values fit.
use Rattle.std.specs.Prelude.{ℕ, Bool, true, false, ◌&&◌, if◌then◌else◌, List, [], ◌∷◌, Option, Some, None}
use Rattle.std.specs.Cmp.Lexicographic.{slice_cmp}
use Rattle.std.specs.List.{list_all}
use Rattle.std.specs.Ordering.{is_lt, nat_cmp}
use Rattle.esc_values.specs.Cuts.{Pairs, last_value}
use Rattle.esc_values.specs.Scalars.{and_then}

-- from a key to its value, if the key is there
abbrev pub Values : Type 0
Values = List ℕ → Option (List ℕ)

-- the last value of a key counts
abbrev pub values_of : Pairs → Values
values_of es k = last_value k None es

-- a key, and its value if it is written
abbrev pub Entry : Type 0
Entry = List ℕ × Option (List ℕ)

-- the keys that are written
abbrev pub with_value : List ℕ → Option (List ℕ) → Pairs → Pairs
with_value n None es = es
with_value n (Some v) es = (n, v) ∷ es

abbrev pub present_pairs : List Entry → Pairs
present_pairs [] = []
present_pairs (e ∷ es) = with_value e.0 e.1 (present_pairs es)

-- whether none is written
abbrev pub is_bare : Pairs → Bool
is_bare [] = true
is_bare (e ∷ es) = false

-- in the order of their bytes, each once
abbrev pub cut_before : List ℕ → List ℕ → Bool
cut_before n m = is_lt (slice_cmp nat_cmp n m)

abbrev pub ascends : Pairs → Bool
ascends [] = true
ascends (e ∷ es) = list_all (λ (d : List ℕ × List ℕ). cut_before e.0 d.0) es && ascends es

-- entries put in the order of the bytes of their keys
abbrev pub with_entry : Entry → List Entry → List Entry
with_entry e [] = e ∷ []
with_entry e (d ∷ ds) = if cut_before e.0 d.0 then e ∷ d ∷ ds else d ∷ with_entry e ds

abbrev pub in_order : List Entry → List Entry
in_order [] = []
in_order (e ∷ es) = with_entry e (in_order es)

-- The kinds of values that a format has. `Of` is the type of a kind's values; `read_as` gives the
-- value, if there is one, of a text, or of no text if the key is absent; `text_as` the text, unless
-- the value is that of an absent key; `Fits` says which values read back.
pub record Kinds : Type 1 where
  pub Kind : Type 0
  pub Of : Kind → Type 0
  pub read_as : (k : Kind) → Option (List ℕ) → Option (Of k)
  pub text_as : (k : Kind) → Of k → Option (List ℕ)
  pub Fits : (k : Kind) → Of k → Type 0

-- a key, the kind of its value, and the field of a struct that is this value
pub record Field (K : Kinds) (S : Type 0) : Type 0 where
  pub key : List ℕ
  pub kind : K.Kind
  pub get : S → K.Of kind

-- the entries of a struct, one a field
abbrev pub entries : {K : Kinds} {S : Type 0} → List (Field K S) → S → List Entry
entries [] s = []
entries {K = K} (f ∷ fs) s = (f.key, K.text_as f.kind (f.get s)) ∷ entries fs s

-- whether all fields of a struct fit
abbrev pub FitAll : {K : Kinds} {S : Type 0} → List (Field K S) → S → Type 0
FitAll [] s = Unit {0}
FitAll {K = K} (f ∷ fs) s = K.Fits f.kind (f.get s) × FitAll fs s

-- a function of the values of all fields, one after another
abbrev pub Makes : {K : Kinds} {S : Type 0} → List (Field K S) → Type 0 → Type 0
Makes [] R = R
Makes {K = K} (f ∷ fs) R = K.Of f.kind → Makes fs R

-- the value that it makes of the values that keys are read as; none if one is not read
abbrev pub read_with : {K : Kinds} {S R : Type 0} → (fs : List (Field K S)) → Makes fs R → Values
    → Option R
read_with [] make v = Some make
read_with {K = K} (f ∷ fs) make v =
    and_then (K.read_as f.kind (v f.key)) (λ x. read_with fs (make x) v)
