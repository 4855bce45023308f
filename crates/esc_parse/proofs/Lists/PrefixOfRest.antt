-- A prefix of the rest, and the bytes after it.
use Rattle.std.proofs.Common.{◌≡◌, ℕ, ◌-◌, List, ◌++◌, length, take, drop, sym, ap, ◌∙◌, append_assoc, take-append-drop, take_all, length-drop, arith}

pub rest_is : (xs : List ℕ) (n : ℕ) → take (length xs - n) (drop n xs) ≡ drop n xs
rest_is xs n = take_all (length xs - n) (drop n xs) (omega (arith, length-drop n xs))

pub prefix_more : (all prefix rest : List ℕ) (n : ℕ) → all ≡ prefix ++ rest
    → all ≡ (prefix ++ take n rest) ++ take (length rest - n) (drop n rest)
prefix_more all prefix rest n e =
    e ∙ ap (λ l. prefix ++ l)
    (sym (take-append-drop n rest) ∙ ap (λ l. take n rest ++ l) (sym (rest_is rest n)))
    ∙ sym (append_assoc prefix (take n rest) (take (length rest - n) (drop n rest)))
