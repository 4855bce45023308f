-- A run of characters where no wide one stands.
use Rattle.std.proofs.Common.{ℕ, suc, zero, ◌≡◌, ◌+◌, ◌-◌, ◌<◌, ◌≤◌, Bool, true, false, List, [], ◌∷◌, ◌++◌, length, map, set, take, drop, get_or, if◌then◌else◌, refl, ap, sym, ◌∙◌, append_assoc, arith}
use Rattle.std.proofs.lemmas.Bool.{true≢false}
use Rattle.std.proofs.lemmas.List.{drop_more, get_or_at, get_or-append-add, length-map, length-take-le, length_push, map_more, set_at}
use Rattle.esc_screen.specs.Cells.{blank, cut_row, drawn_cell, emptied_cells, is_free, is_rest, cells_with, put_all}
use Rattle.esc_screen.specs.declared.cell.Cell.{Cell}

pub cut_same : (n : ℕ) (xs : List Cell) → is_rest (get_or xs n (blank 0)) ≡ false → cut_row n xs
    ≡ xs
cut_same n xs h = ap (λ b. if b then emptied_cells n (emptied_cells (n - 1) xs) else xs) h

parts : (a b : Bool) → (if a then false else b) ≡ true → (a ≡ false) × (b ≡ true)
parts true b h = absurd (true≢false (sym h))
parts false b h = (refl, h)

head_free : (k : ℕ) (ys : List Cell) → is_free k ys ≡ true
    → is_rest (get_or ys 0 (blank 0)) ≡ false
head_free k [] h = refl
head_free zero (y ∷ ys) h = (parts (is_rest y) true h).0
head_free (suc k) (y ∷ ys) h = (parts (is_rest y) (is_free k ys) h).0

pub free_run : (n l : ℕ) (cs : List ℕ) (p ys : List Cell) → length p ≡ n → length cs ≤ length ys
    → is_free (length cs) ys ≡ true
    → put_all n l cs (p ++ ys) ≡ p ++ (map (drawn_cell l) cs ++ drop (length cs) ys)
free_run n l [] p ys e less h = refl
free_run n l (c ∷ cs) p [] e less h = absurd (omega (arith, less))
free_run n l (c ∷ cs) p (y ∷ ys) e less h =
    let xs = p ++ y ∷ ys in
    let k = parts (is_rest y) (is_free (length cs) ys) h in
    let here : is_rest (get_or xs n (blank 0)) ≡ false =
    ap is_rest (get_or_at p y ys (blank 0) n e) ∙ k.0 in
    let next : is_rest (get_or xs (n + 1) (blank 0)) ≡ false =
    ap is_rest (ap (λ m. get_or xs (m + 1) (blank 0)) (sym e)
    ∙ get_or-append-add p (y ∷ ys) 1 (blank 0)) ∙ head_free (length cs) ys k.1 in
    let first : cells_with n l c xs ≡ p ++ drawn_cell l c ∷ ys =
    ap (λ z. set (cut_row (n + 1) z) n (drawn_cell l c)) (cut_same n xs here)
    ∙ ap (λ z. set z n (drawn_cell l c)) (cut_same (n + 1) xs next)
    ∙ set_at p y ys (drawn_cell l c) n e in
    let few : length cs ≤ length ys = omega (arith, less) in
    ap (put_all (n + 1) l cs) (first ∙ sym (append_assoc p (drawn_cell l c ∷ []) ys))
    ∙ free_run (n + 1) l cs (p ++ drawn_cell l c ∷ []) ys
    (length_push p (drawn_cell l c) ∙ ap (λ m. m + 1) e) few k.1
    ∙ append_assoc p (drawn_cell l c ∷ []) (map (drawn_cell l) cs ++ drop (length cs) ys)

pub draw_more : (l i : ℕ) (t : List ℕ) (ys : List Cell) (d : ℕ) → i < length t
    → length ys ≡ length t
    → set (map (drawn_cell l) (take i t) ++ drop i ys) i (drawn_cell l (get_or t i d))
    ≡ map (drawn_cell l) (take (i + 1) t) ++ drop (i + 1) ys
draw_more l i t ys d less e =
    let p = map (drawn_cell l) (take i t) in
    let within : i < length ys = omega (arith, less, e) in
    let few : i ≤ length t = omega (arith, less) in
    let len : length p ≡ i = length-map (take i t) (drawn_cell l) ∙ length-take-le i t few in
    let x = drawn_cell l (get_or t i d) in
    ap (λ z. set (p ++ z) i x) (drop_more ys i (blank 0) within)
    ∙ set_at p (get_or ys i (blank 0)) (drop (i + 1) ys) x i len
    ∙ sym (append_assoc p (x ∷ []) (drop (i + 1) ys))
    ∙ ap (λ z. z ++ drop (i + 1) ys) (sym (map_more (drawn_cell l) t i d less))
