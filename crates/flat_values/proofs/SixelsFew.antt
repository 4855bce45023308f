-- An image of sixel data has no more items than its data has bytes.
use Rattle.std.proofs.Common.{ℕ, ℤ, ◌≤◌, Bool, true, false, if◌then◌else◌, List, [], ◌∷◌, Some, None, arith, length}
use Rattle.std.proofs.lemmas.List.{length-append}
use Rattle.std.specs.List.{flat_map, list_any}
use Rattle.esc_sixel.specs.Classes.{class_of}
use Rattle.esc_sixel.specs.Items.{Item, OfReturn, OfLine, OfPixels, OfRepeat, OfColor, OfRaster, OfJunk, Outside, Place, belongs, item_of, items, items_at, place_after}
use Rattle.esc_sixel.specs.Meaning.{after_last, gives, is_oversize}

one : (i : Item) → length (gives i) ≤ 1
one OfReturn = omega arith
one OfLine = omega arith
one (OfPixels v) = omega arith
one (OfRepeat r (Some v)) = omega arith
one (OfRepeat r None) = omega arith
one (OfColor r) = omega arith
one (OfRaster r) = omega arith
one (OfJunk b) = omega arith

given_few : (is : List Item) → length (flat_map gives is) ≤ length is
given_few [] = omega arith
given_few (i ∷ is) =
    let first = one i in
    let rest = given_few is in
    let both = length-append (gives i) (flat_map gives is) in
    omega arith

either : {X : Type 0} (b : Bool) (xs ys : List X) (n : ℕ) → length xs ≤ n → length ys ≤ n
    → length (if b then xs else ys) ≤ n
either true xs ys n few other = few
either false xs ys n few other = other

last_few : (t : Item → Bool) (is : List Item) → length (after_last t is) ≤ length is
last_few t [] = omega arith
last_few t (i ∷ is) =
    let rest = last_few t is in
    let fewer : length (after_last t is) ≤ length (i ∷ is) = omega arith in
    let all : length (i ∷ is) ≤ length (i ∷ is) = omega arith in
    either (list_any t (i ∷ is)) (after_last t is) (i ∷ is) (length (i ∷ is)) fewer all

items_few : (p : Place) (bs : List ℕ) → length (items_at p bs) ≤ length bs
items_few p [] = omega arith
items_few p (b ∷ bs) =
    let c = class_of b in
    let more = items_at (place_after p c) bs in
    let rest = items_few (place_after p c) bs in
    let fewer : length more ≤ length (b ∷ bs) = omega arith in
    let all : length (item_of c b bs ∷ more) ≤ length (b ∷ bs) = omega arith in
    either (belongs p c) more (item_of c b bs ∷ more) (length (b ∷ bs)) fewer all

pub content_few : (ps : List ℤ) (s : List ℕ)
    → length (flat_map gives (after_last is_oversize (items s))) ≤ length s
content_few ps s =
    let kept = after_last is_oversize (items s) in
    let first = given_few kept in
    let second = last_few is_oversize (items s) in
    let third = items_few Outside s in
    omega arith
