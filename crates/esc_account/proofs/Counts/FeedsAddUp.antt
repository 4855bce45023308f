-- How many line feeds there are.
use Rattle.std.proofs.Common.{ℕ, zero, suc, ◌≡◌, ◌≤◌, ◌<◌, ◌+◌, ◌-◌, take, drop, take-append-drop, Bool, true, false, if◌then◌else◌, List, [], ◌∷◌, ◌++◌, length, get_or, ap, ◌∙◌, arith}
use Rattle.esc_filter.specs.Lines.{is_line_feed}
use Rattle.std.proofs.lemmas.List.{take_more, take_rest}
use Rattle.std.proofs.Math.Seq.{take-add}
use Rattle.esc_account.specs.Accounts.{feeds}

pub feeds_more : (x y : List ℕ) → feeds (x ++ y) ≡ feeds x + feeds y
feeds_more [] y = omega arith
feeds_more (b ∷ x) y = by (is_line_feed b) (feeds_more x y)
  where
    by : (t : Bool) → feeds (x ++ y) ≡ feeds x + feeds y
        → (if t then 1 + feeds (x ++ y) else feeds (x ++ y))
        ≡ (if t then 1 + feeds x else feeds x) + feeds y
    by true h = omega (arith, h)
    by false h = h

pub few_feeds : (x : List ℕ) → feeds x ≤ length x
few_feeds [] = omega arith
few_feeds (b ∷ x) = by (is_line_feed b) (few_feeds x)
  where
    by : (t : Bool) → feeds x ≤ length x
        → (if t then 1 + feeds x else feeds x) ≤ length (b ∷ x)
    by true h = omega (arith, h)
    by false h = omega (arith, h)

-- a byte more
pub byte_counted : (x : List ℕ) (i count d : ℕ) → i < length x → count ≡ feeds (take i x)
    → feeds (take (i + 1) x) ≡ count + (if is_line_feed (get_or x i d) then 1 else 0)
byte_counted x i count d few h =
    ap feeds (take_more x i d few) ∙ feeds_more (take i x) (get_or x i d ∷ [])
    ∙ one (is_line_feed (get_or x i d)) (feeds (take i x)) count h
  where
    one : (t : Bool) (n count : ℕ) → count ≡ n
        → n + (if t then 1 + 0 else 0) ≡ count + (if t then 1 else 0)
    one true n count h = omega (arith, h)
    one false n count h = omega (arith, h)

-- a block more
pub block_counted : (x : List ℕ) (i n count more : ℕ) → count ≡ feeds (take i x)
    → more ≡ feeds (take (i + n - i) (drop i x)) → count + more ≡ feeds (take (i + n) x)
block_counted x i n count more h k =
    omega (
      arith,
      h,
      k,
      ap (λ m. feeds (take m (drop i x))) (back i n),
      feeds_more (take i x) (take n (drop i x)),
      ap feeds (take-add i n x),
    )
  where
    back : (i n : ℕ) → i + n - i ≡ n
    back i n = omega arith

-- all that are left
pub rest_counted : (x : List ℕ) (i count more : ℕ) → count ≡ feeds (take i x)
    → more ≡ feeds (take (length x - i) (drop i x)) → count + more ≡ feeds x
rest_counted x i count more h k =
    omega (
      arith,
      h,
      k,
      ap feeds (take_rest x i),
      feeds_more (take i x) (drop i x),
      ap feeds (take-append-drop i x),
    )

take_few : (n : ℕ) (x : List ℕ) → length (take n x) ≤ n
take_few zero x = omega arith
take_few (suc n) [] = omega arith
take_few (suc n) (b ∷ x) = omega (arith, take_few n x)

pub rest_few : (x : List ℕ) (i count more : ℕ) → i ≤ length x → count ≤ i
    → more ≤ length (take (length x - i) (drop i x)) → count + more ≤ length x
rest_few x i count more within few h =
    omega (arith, within, few, h, take_few (length x - i) (drop i x))
