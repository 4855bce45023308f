-- Tables with more fields.
use Rattle.std.proofs.Common.{ℕ, suc, arith, ◌≡◌, ◌<◌, ◌+◌, List, [], ◌∷◌, ◌++◌, drop, get_or, length, take, map, refl, sym, ap, ◌∙◌, append_assoc}
use Rattle.std.proofs.Math.Seq.{drop-append_seam, drop-cons, take-append_seam}
use Rattle.std.proofs.lemmas.List.{append-nil, length-append}
use Rattle.std.specs.List.{flat_map}
use Rattle.flat_values.specs.Fields.{Field, Table, Value, name_number, named_values, row_at, row_said, table_values, table_of, text_of, with_field, with_fields}
use Rattle.flat_values.specs.declared.field_name.FieldName.{FieldName}
use Rattle.flat_values.specs.declared.field_row.FieldRow.{FieldRow}
use Rattle.flat_values.specs.Fields.Value.{Number, Text, Size}

-- more fields after others
pub with_more : (t : Table) (fs gs : List Field)
    → with_fields (with_fields t fs) gs ≡ with_fields t (fs ++ gs)
with_more t [] gs = refl
with_more t (f ∷ fs) gs = with_more (with_field t f) fs gs

-- the texts of fields, and their rows after texts of so many bytes
abbrev texts : List Field → List ℕ
texts [] = []
texts (f ∷ fs) = text_of f.value ++ texts fs

abbrev rows : ℕ → List Field → List FieldRow
rows n [] = []
rows n (f ∷ fs) = row_at n f.name f.value ∷ rows (n + length (text_of f.value)) fs

-- a table with fields more has their rows and their texts
in_parts : (t : Table) (fs : List Field)
    → with_fields t fs ≡ (t.0 ++ rows (length t.1) fs, t.1 ++ texts fs)
in_parts t [] = λ k. (sym (append-nil t.0) k, sym (append-nil t.1) k)
in_parts t (f ∷ fs) =
    let x = text_of f.value in
    let row = row_at (length t.1) f.name f.value in
    let first = append_assoc t.0 (row ∷ []) (rows (length (t.1 ++ x)) fs)
    ∙ ap (λ n. t.0 ++ row ∷ rows n fs) (length-append t.1 x) in
    let second = append_assoc t.1 x (texts fs) in
    in_parts (with_field t f) fs ∙ (λ k. (first k, second k))

-- a row says its field, whatever texts come before and after
row_says : (x y : List ℕ) (n : FieldName) (v : Value)
    → row_said (x ++ (text_of v ++ y)) (row_at (length x) n v) ≡ (name_number n, v)
row_says x y n (Number z) = refl
row_says x y n (Text t) =
    ap (λ w. (name_number n, Text w))
    (ap (take (length t)) (drop-append_seam x (t ++ y)) ∙ take-append_seam t y)
row_says x y n (Size k) = refl

rows_are : (x : List ℕ) (fs : List Field)
    → map (row_said (x ++ texts fs)) (rows (length x) fs) ≡ map named_values fs
rows_are x [] = refl
rows_are x (f ∷ fs) =
    let t = text_of f.value in
    let first = row_says x (texts fs) f.name f.value in
    let all = sym (append_assoc x t (texts fs)) in
    let place = sym (length-append x t) in
    let rest = (λ k. map (row_said (all k)) (rows (place k) fs)) ∙ rows_are (x ++ t) fs in
    λ k. first k ∷ rest k

pub rows_say : (fs : List Field) → table_values (table_of fs) ≡ map named_values fs
rows_say fs = ap table_values (in_parts ([], []) fs) ∙ rows_are [] fs

-- the items from one on
from_item : {X : Type 0} (xs : List X) (i : ℕ) (x : X) → i < length xs → x ≡ get_or xs i x
    → drop i xs ≡ x ∷ drop (i + 1) xs
from_item xs i x inside is_x =
    let next : suc i ≡ i + 1 = omega arith in
    drop-cons xs i x inside ∙ (λ k. sym is_x k ∷ drop (next k) xs)

-- a table with the fields of the items from one on is that with those of this one, and then of the
-- next on
pub after_item : {X : Type 0} (parts : X → List Field) (t u v : Table) (xs : List X) (i : ℕ) (x : X)
    → i < length xs → x ≡ get_or xs i x → v ≡ with_fields t (flat_map parts (drop i xs))
    → u ≡ with_fields t (parts x) → v ≡ with_fields u (flat_map parts (drop (i + 1) xs))
after_item parts t u v xs i x inside is_x is_v is_u =
    let more = flat_map parts (drop (i + 1) xs) in
    is_v ∙ ap (λ ys. with_fields t (flat_map parts ys)) (from_item xs i x inside is_x)
    ∙ sym (with_more t (parts x) more) ∙ ap (λ w. with_fields w more) (sym is_u)

-- the items read before one, and it, are those read before the next
pub after_read : {X Y : Type 0} (f : X → Y) (xs : List X) (i : ℕ) (x : X) (ys zs : List Y)
    → i < length xs → x ≡ get_or xs i x → map f xs ≡ ys ++ map f (drop i xs)
    → zs ≡ ys ++ f x ∷ [] → map f xs ≡ zs ++ map f (drop (i + 1) xs)
after_read f xs i x ys zs inside is_x so_far is_zs =
    let more = map f (drop (i + 1) xs) in
    so_far ∙ ap (λ l. ys ++ map f l) (from_item xs i x inside is_x)
    ∙ sym (append_assoc ys (f x ∷ []) more) ∙ ap (λ l. l ++ more) (sym is_zs)
