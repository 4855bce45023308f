-- Blocks of ASCII.
use Rattle.std.proofs.Common.{ℕ, zero, suc, ◌≡◌, ◌<◌, ◌+◌, ◌-◌, List, [], ◌∷◌, bit_or, length, take, drop, arith, sym, subst}
use Rattle.std.specs.Str.{IsAscii}
use Rattle.std.proofs.lemmas.List.{take_all, take_rest}
use Rattle.std.proofs.lemmas.Nat.{le_or_l, le_or_r}
use Rattle.std.proofs.lemmas.Str.{IsAscii-append}
use Rattle.esc_frame.proofs.ByteRuns.CsiRuns.{run_joins}
use lib.Lanes.{zip2}

-- the bits of both
pub either_ascii : (xs ys : List ℕ) → length xs ≡ length ys → IsAscii (zip2 bit_or xs ys)
    → IsAscii xs × IsAscii ys
either_ascii [] [] e h = (h, h)
either_ascii [] (y ∷ ys) e h = absurd (omega (arith, e))
either_ascii (x ∷ xs) [] e h = absurd (omega (arith, e))
either_ascii (x ∷ xs) (y ∷ ys) e h =
    let r = either_ascii xs ys (omega (arith, e)) (λ i. h (suc i)) in
    let first : bit_or x y < 128 = h 0 in (
      elim [ zero ↦ omega (arith, first, le_or_l x y) | suc i ↦ r.0 i ],
      elim [ zero ↦ omega (arith, first, le_or_r x y) | suc i ↦ r.1 i ],
    )

-- a block, and then more
pub ascii_joins : (s : List ℕ) (i n : ℕ) → IsAscii (take i s) → IsAscii (take n (drop i s))
    → IsAscii (take (i + n) s)
ascii_joins s i n h k =
    subst IsAscii (run_joins s i n)
    (IsAscii-append (take i s) (take n (take (length s - i) (drop i s))) h
    (subst (λ y. IsAscii (take n y)) (sym (take_rest s i)) k))

-- four quarters
pub block_ascii : (s : List ℕ) → length s ≡ 256 → IsAscii (take 64 s)
    → IsAscii (take 64 (drop 64 s)) → IsAscii (take 64 (drop 128 s))
    → IsAscii (take 64 (drop 192 s)) → IsAscii s
block_ascii s l a b c d =
    let two = ascii_joins s 64 64 a b in
    let three = ascii_joins s 128 64 two c in
    let four = ascii_joins s 192 64 three d in
    subst IsAscii (take_all 256 s (omega (arith, l))) four
