-- Values that are read from parts lie in the ranges of their types.
use Rattle.std.proofs.Common.{ℕ, ◌≡◌, ◌<◌, ◌≤◌, ◌+◌, ◌*◌, ◌/◌, ◌==◌, ◌&&◌, nat_lt, nat_le, nat_eq, inl, inr, List, [], ◌∷◌, length, take, drop, codes}
use Rattle.std.proofs.Common.{Some, None, arith}
use Rattle.std.specs.Char.{digit_value}
use Rattle.std.specs.Cmp.Lexicographic.{pointwise}
use Rattle.std.specs.List.{starts_with}
use Rattle.std.specs.Option.{option_map, unwrap_or}
use Rattle.std.proofs.lemmas.Bool.{ltb-true, leb-true, cases_Bool, and_parts}
use Rattle.esc_values.specs.Scalars.{and_then, number_of}
use Rattle.esc_values.proofs.Numbers.FactsIfSome.{Where, where_if, where_map, where_then, number_where, Anything, anything}
use Rattle.esc_values.specs.Cuts.{cut_at}
use Rattle.esc_osc_values.specs.Colors.{hex_of, hex_after, channel_of, color_from, rgb_of, sharp_of, spec_of, colors_of, pairs_of}
use Rattle.esc_osc_values.specs.Progresses.{capped_at_100, percent_of, state_of, progress_of}
use Rattle.esc_osc_values.specs.Lists.{numbers_of}
use Rattle.esc_osc_values.specs.WritableValues.{AreNumbers, IsColor, AreColors, ArePairs, IsProgress}
use Rattle.esc_osc_values.specs.declared.color_or_query.ColorOrQuery.TheVariants.{Color, Query}
use Rattle.esc_osc_values.specs.declared.progress.Progress.TheVariants as progress

-- numbers
pub numbers_where : (ps : List (List ℕ)) → Where AreNumbers (numbers_of ps)
numbers_where [] = tt
numbers_where (p ∷ ps) =
    elim (cases_Bool (length p == 0)) [
      | inl capped_at_100 ↦ rw capped_at_100 (numbers_where ps)
      | inr failed ↦ rw failed (where_then (λ n. n < 256) AreNumbers (λ n.
          option_map (λ more. n ∷ more) (numbers_of ps))
          (λ n small. where_map AreNumbers AreNumbers (λ more. n ∷ more) (λ more h.
          (small, h)) (numbers_of ps) (numbers_where ps)) (number_of 8 p)
          (number_where 8 p))
    ]

-- channels
abbrev Below : ℕ → ℕ → Type 0
Below k v = v < k

hex_where : (d : ℕ) → Where (Below 16) (hex_of d)
hex_where d =
    elim (cases_Bool (nat_lt (digit_value d) 16)) [
      | inl capped_at_100 ↦ let small = ltb-true (digit_value d) 16 capped_at_100
          in rw capped_at_100 small
      | inr failed ↦ rw failed tt
    ]

one_more : (n m : ℕ) (d : ℕ) (ds : List ℕ) (k : ℕ)
    → ((v : ℕ) → v < 16 → Where (Below k) (hex_after (n * 16 + v) ds))
    → Where (Below k) (hex_after n (d ∷ ds))
one_more n m d ds k h =
    where_then (Below 16) (Below k) (λ v. hex_after (n * 16 + v) ds) h (hex_of d) (hex_where d)

one_digit : (n m a : ℕ) → n < m → Where (Below (m * 16)) (hex_after n (a ∷ []))
one_digit n m a h = one_more n m a [] (m * 16) (λ v small. omega arith)

two_digits : (n m a b : ℕ) → n < m → Where (Below (m * 256)) (hex_after n (a ∷ b ∷ []))
two_digits n m a b h = one_more n m a (b ∷ []) (m * 256) (λ v small.
    let next = one_digit (n * 16 + v) (m * 16) b (omega arith) in
    let same : m * 16 * 16 ≡ m * 256 = omega arith in
    rw same at next)

three_digits : (n m a b c : ℕ) → n < m → Where (Below (m * 4096)) (hex_after n (a ∷ b ∷ c ∷ []))
three_digits n m a b c h = one_more n m a (b ∷ c ∷ []) (m * 4096) (λ v small.
    let next = two_digits (n * 16 + v) (m * 16) b c (omega arith) in
    let same : m * 16 * 256 ≡ m * 4096 = omega arith in
    rw same at next)

four_digits : (n m a b c d : ℕ) → n < m
    → Where (Below (m * 65536)) (hex_after n (a ∷ b ∷ c ∷ d ∷ []))
four_digits n m a b c d h = one_more n m a (b ∷ c ∷ d ∷ []) (m * 65536) (λ v small.
    let next = three_digits (n * 16 + v) (m * 16) b c d (omega arith) in
    let same : m * 16 * 4096 ≡ m * 65536 = omega arith in
    rw same at next)

long_where : (ds : List ℕ) → 4 < length ds → Where (Below 65536) (channel_of ds)
long_where ds long =
    elim (cases_Bool (nat_lt 0 (length ds) && nat_le (length ds) 4)) [
      | inl capped_at_100 ↦ let q = and_parts (nat_lt 0 (length ds)) (nat_le (length ds) 4)
          capped_at_100 in
          let short = leb-true (length ds) 4 q.1 in absurd (omega arith)
      | inr failed ↦ rw failed tt
    ]

channel_where : (ds : List ℕ) → Where (Below 65536) (channel_of ds)
channel_where [] = tt
channel_where (a ∷ []) = where_map (Below 16) (Below 65536) (λ v. 65535 * v / 15) (λ v h.
    omega arith) (hex_after 0 (a ∷ [])) (one_digit 0 1 a (omega arith))
channel_where (a ∷ b ∷ []) =
    where_map (Below 256) (Below 65536) (λ v. 65535 * v / 255) (λ v h.
    omega arith) (hex_after 0 (a ∷ b ∷ [])) (two_digits 0 1 a b (omega arith))
channel_where (a ∷ b ∷ c ∷ []) =
    where_map (Below 4096) (Below 65536) (λ v. 65535 * v / 4095) (λ v h.
    omega arith) (hex_after 0 (a ∷ b ∷ c ∷ [])) (three_digits 0 1 a b c (omega arith))
channel_where (a ∷ b ∷ c ∷ d ∷ []) =
    where_map (Below 65536) (Below 65536) (λ v. 65535 * v / 65535) (λ v h.
    omega arith) (hex_after 0 (a ∷ b ∷ c ∷ d ∷ []))
    (four_digits 0 1 a b c d (omega arith))
channel_where (a ∷ b ∷ c ∷ d ∷ e ∷ ds) = long_where (a ∷ b ∷ c ∷ d ∷ e ∷ ds) (omega arith)

-- colours
color_where : (r g b : List ℕ) → Where IsColor (color_from r g b)
color_where r g b =
    where_then (Below 65536) IsColor
    (λ red. and_then (channel_of g) (λ green.
    option_map (λ blue. Color (record { red = red; green = green; blue = blue }))
    (channel_of b)))
    (λ red small.
    where_then (Below 65536) IsColor (λ green.
    option_map (λ blue. Color (record { red = red; green = green; blue = blue }))
    (channel_of b))
    (λ green little.
    where_map (Below 65536) IsColor (λ blue.
    Color (record { red = red; green = green; blue = blue }))
    (λ blue low. (small, little, low)) (channel_of b) (channel_where b))
    (channel_of g) (channel_where g))
    (channel_of r) (channel_where r)

rgb_where : (bs : List ℕ) → Where IsColor (rgb_of bs)
rgb_where bs =
    where_then (λ (p : List ℕ × List ℕ). Anything p) IsColor
    (λ (p : List ℕ × List ℕ). and_then (cut_at 0x2f p.1) (λ (q : List ℕ
    × List ℕ). color_from p.0 q.0 q.1))
    (λ p h. where_then (λ (q : List ℕ × List ℕ). Anything q) IsColor (λ (q : List ℕ
    × List ℕ). color_from p.0 q.0 q.1)
    (λ q k. color_where p.0 q.0 q.1) (cut_at 0x2f p.1) (anything (cut_at 0x2f p.1)))
    (cut_at 0x2f bs) (anything (cut_at 0x2f bs))

sharp_where : (bs : List ℕ) → Where IsColor (sharp_of bs)
sharp_where bs =
    where_if IsColor (length bs == 6) _ None
    (color_where (take 2 bs) (take 2 (drop 2 bs)) (drop 4 bs)) tt

spec_where : (bs : List ℕ) → Where IsColor (spec_of bs)
spec_where bs =
    where_if IsColor (pointwise nat_eq bs (codes "?")) (Some Query) _ tt
    (where_if IsColor (starts_with nat_eq bs (codes "rgb:")) _ _ (rgb_where (drop 4 bs))
    (where_if IsColor (starts_with nat_eq bs (codes "#")) _ None (sharp_where (drop 1 bs)) tt))

pub colors_where : (ps : List (List ℕ)) → Where AreColors (colors_of ps)
colors_where [] = tt
colors_where (p ∷ ps) =
    where_then IsColor AreColors (λ c. option_map (λ more. c ∷ more) (colors_of ps))
    (λ c h. where_map AreColors AreColors (λ more. c ∷ more) (λ more k. (h, k)) (colors_of ps)
    (colors_where ps)) (spec_of p) (spec_where p)

pub pairs_where : (ps : List (List ℕ)) → Where ArePairs (pairs_of ps)
pairs_where [] = tt
pairs_where (i ∷ []) = tt
pairs_where (i ∷ s ∷ ps) =
    where_then (λ n. n < 256) ArePairs (λ n.
    and_then (spec_of s) (λ c.
    option_map (λ more. record { palette_index = n; color = c } ∷ more) (pairs_of ps)))
    (λ n small. where_then IsColor ArePairs (λ c.
    option_map (λ more. record { palette_index = n; color = c } ∷ more) (pairs_of ps))
    (λ c h. where_map ArePairs ArePairs (λ more. record { palette_index = n; color = c } ∷ more)
    (λ more k. ((small, h), k)) (pairs_of ps) (pairs_where ps))
    (spec_of s) (spec_where s))
    (number_of 8 i) (number_where 8 i)

-- progress
held_small : (n : ℕ) → capped_at_100 n ≤ 100
held_small n =
    elim (cases_Bool (nat_le n 100)) [
      | inl low ↦ let small = leb-true n 100 low in rw low small
      | inr high ↦ rw high (omega arith)
    ]

percent_small : (ps : List (List ℕ)) → percent_of ps ≤ 100
percent_small [] = omega arith
percent_small (p ∷ ps) = held_small (unwrap_or (number_of 8 p) 0)

state_where : (s : List ℕ) (more : List (List ℕ)) → Where IsProgress (state_of s more)
state_where s more =
    where_if IsProgress (pointwise nat_eq s (codes "0")) (Some progress.None) _ tt
    (where_if IsProgress (pointwise nat_eq s (codes "1"))
    (Some (progress.SetPercentage (percent_of more))) _ (percent_small more)
    (where_if IsProgress (pointwise nat_eq s (codes "2"))
    (Some (progress.SetError (percent_of more))) _ (percent_small more)
    (where_if IsProgress (pointwise nat_eq s (codes "3")) (Some progress.SetIndeterminate) _ tt
    (where_if IsProgress (pointwise nat_eq s (codes "4")) (Some progress.Paused) None tt tt))))

pub progress_where : (args : List (List ℕ)) → Where IsProgress (progress_of args)
progress_where [] = tt
progress_where (a ∷ []) = tt
progress_where (a ∷ s ∷ more) =
    where_if IsProgress (pointwise nat_eq a (codes "4")) _ None (state_where s more) tt
