-- Parts of rows that are changed one by one, and parts that are turned.
use Rattle.std.proofs.Common.{ℕ, ◌≡◌, ◌+◌, ◌-◌, ◌<◌, ◌≤◌, List, [], ◌∷◌, ◌++◌, get_or, length, map, min, replicate, set, take, drop, inl, inr, append_assoc, length-append, refl, sym, ap, ◌∙◌, arith}
use Rattle.std.proofs.Math.Seq.{drop-append_seam, take-append_seam}
use Rattle.std.proofs.lemmas.Bool.{cases_lt}
use Rattle.std.proofs.lemmas.List.{append-nil, drop-drop, drop_all, get_or-drop, get_or_default, length-drop, length-map, length-take-le, map_more, take-append-drop, take_all}
use Rattle.esc_screen.proofs.Parts.{in_part_is}
use Rattle.esc_screen.proofs.Printing.MiddlesOfRows.{change_more}
use Rattle.esc_screen.specs.Lists.{in_part, moved_down, moved_up, turned_down, turned_up}

-- ---- one row after another

-- the rows from one to before another are changed, and those after them not yet
abbrev pub changed_until : {X : Type 0} → (X → X) → ℕ → ℕ → List X → List X
changed_until f m i xs = take m xs ++ (map f (take (i - m) (drop m xs)) ++ drop i xs)

length_until : {X : Type 0} (f : X → X) (m i : ℕ) (xs : List X) → m ≤ i → i ≤ length xs
    → length (changed_until f m i xs) ≡ length xs
length_until f m i xs from to =
    let zs = drop m xs in
    let ys = map f (take (i - m) zs) in
    let many : length zs ≡ length xs - m = length-drop m xs in
    let few : i - m ≤ length zs = omega (arith, many) in
    omega (
      arith,
      length-append (take m xs) (ys ++ drop i xs),
      length-append ys (drop i xs),
      length-take-le m xs (omega arith),
      length-map (take (i - m) zs) f,
      length-take-le (i - m) zs few,
      length-drop i xs,
    )

pub one_changed : {X : Type 0} (f : X → X) (m i : ℕ) (d : X) (xs ys zs : List X) → m ≤ i
    → i < length xs → ys ≡ changed_until f m i xs → zs ≡ set ys i (f (get_or ys i d))
    → zs ≡ changed_until f m (i + 1) xs
one_changed f m i d xs ys zs from less before one =
    let us = changed_until f m i xs in
    let len : length us ≡ length xs = length_until f m i xs from (omega arith) in
    let x = get_or us i d in
    one ∙ ap (λ vs. set vs i (f (get_or vs i d))) before
    ∙ change_more f m i x xs from less (get_or_default us i d x (omega (arith, len)))

pub none_changed : {X : Type 0} (f : X → X) (m : ℕ) (xs : List X) → xs ≡ changed_until f m m xs
none_changed f m xs =
    let none : m - m ≡ 0 = omega arith in
    sym (ap (λ k. take m xs ++ (map f (take k (drop m xs)) ++ drop m xs)) none
    ∙ take-append-drop m xs)

pub all_changed : {X : Type 0} (f : X → X) (m n e i : ℕ) (xs ys : List X)
    → e ≡ min n (length xs) → m < e → (m ≤ e → i ≤ e) → e ≤ i → ys ≡ changed_until f m i xs
    → ys ≡ in_part m n (map f) xs
all_changed f m n e i xs ys e_is less far done each =
    let le : m ≤ e = omega (arith, less) in
    let is : i ≡ e = omega (arith, far le, done) in
    let there : m + (e - m) ≡ e = omega (arith, le) in
    let zs = map f (take (e - m) (drop m xs)) in
    each ∙ ap (λ k. changed_until f m k xs) is
    ∙ ap (λ k. take m xs ++ (zs ++ drop k xs)) (sym there)
    ∙ ap (λ rest. take m xs ++ (zs ++ rest)) (sym (drop-drop (e - m) m xs))
    ∙ in_part_is (map f) m n e xs zs e_is refl

pub whole_changed : {X : Type 0} (f : X → X) (e i : ℕ) (xs ys : List X) → e ≡ length xs
    → i ≤ e → e ≤ i → ys ≡ changed_until f 0 i xs → ys ≡ map f xs
whole_changed f e i xs ys e_is far done each =
    let is : i ≡ length xs = omega (arith, e_is, far, done) in
    let all : length xs - 0 ≡ length xs = omega arith in
    each ∙ ap (λ k. changed_until f 0 k xs) is
    ∙ ap (λ k. map f (take k xs) ++ drop (length xs) xs) all
    ∙ ap (λ zs. map f zs ++ drop (length xs) xs) (take_all (length xs) xs (omega arith))
    ∙ ap (λ zs. map f xs ++ zs) (drop_all (length xs) xs (omega arith)) ∙ append-nil (map f xs)

-- one row more, changed
pub taken_more : {X Y : Type 0} (f : X → Y) (m i : ℕ) (d : X) (xs : List X) → m ≤ i
    → i < length xs → map f (take (i - m) (drop m xs)) ++ f (get_or xs i d) ∷ []
    ≡ map f (take (i + 1 - m) (drop m xs))
taken_more f m i d xs from less =
    let zs = drop m xs in
    let k = i - m in
    let there : m + k ≡ i = omega (arith, from) in
    let one : k + 1 ≡ i + 1 - m = omega (arith, from) in
    let within : k < length zs = omega (arith, length-drop m xs, from, less) in
    ap (λ n. map f (take k zs) ++ f (get_or xs n d) ∷ []) (sym there)
    ∙ ap (λ x. map f (take k zs) ++ f x ∷ []) (sym (get_or-drop m xs k d))
    ∙ sym (map_more f zs k d within) ∙ ap (λ n. map f (take n zs)) one

-- ---- the rest of a list

take_at_most : {X : Type 0} (m k : ℕ) (xs : List X) → k ≡ min m (length xs)
    → take k xs ≡ take m xs
take_at_most m k xs is = elim (cases_lt m (length xs)) [
  | inl less ↦ ap (λ j. take j xs) (omega (arith, is, less))
  | inr most ↦ take_all k xs (omega (arith, is, most)) ∙ sym (take_all m xs most)
]

drop_at_most : {X : Type 0} (m k : ℕ) (xs : List X) → k ≡ min m (length xs)
    → drop k xs ≡ drop m xs
drop_at_most m k xs is = elim (cases_lt m (length xs)) [
  | inl less ↦ ap (λ j. drop j xs) (omega (arith, is, less))
  | inr most ↦ drop_all k xs (omega (arith, is, most)) ∙ sym (drop_all m xs most)
]

-- as many of those after the first ones as there are, changed, and others after them
pub left_is : {X Y : Type 0} (f : X → Y) (y : Y) (m k first there : ℕ) (xs : List X) (ys : List Y)
    → first ≡ min k (length xs) → there ≡ length xs - first
    → ys ≡ map f (take (first + min m there - first) (drop first xs)) ++ replicate (m - there) y
    → ys ≡ map f (take m (drop k xs)) ++ replicate (m - length (drop k xs)) y
left_is f y m k first there xs ys first_is there_is is =
    let rest = drop k xs in
    let many : there ≡ length rest = omega (arith, first_is, there_is, length-drop k xs) in
    let some : first + min m there - first ≡ min m (length rest) = omega (arith, many) in
    is
    ∙ ap (λ zs. map f (take (first + min m there - first) zs) ++ replicate (m - there) y)
    (drop_at_most k first xs first_is)
    ∙ ap (λ zs. map f zs ++ replicate (m - there) y)
    (take_at_most m (first + min m there - first) rest some)
    ∙ ap (λ n. map f (take m rest) ++ replicate (m - n) y) many

-- ---- turned parts

-- a part in the middle
in_middle : {X : Type 0} (f : List X → List X) (m e : ℕ) (xs ys zs : List X) → length xs ≡ m
    → length xs + length ys ≡ e → in_part m e f (xs ++ (ys ++ zs)) ≡ xs ++ (f ys ++ zs)
in_middle f m e xs ys zs first last =
    let all = xs ++ (ys ++ zs) in
    let many : e - m ≡ length ys = omega (arith, first, last) in
    ap (λ k. take m all ++ (f (take k (drop m all)) ++ drop k (drop m all))) many
    ∙ ap (λ k. take k all ++ (f (take (length ys) (drop k all)) ++ drop (length ys) (drop k all)))
    (sym first)
    ∙ ap (λ us. us ++ (f (take (length ys) (drop (length xs) all)) ++ drop (length ys)
    (drop (length xs) all))) (take-append_seam xs (ys ++ zs))
    ∙ ap (λ us. xs ++ (f (take (length ys) us) ++ drop (length ys) us))
    (drop-append_seam xs (ys ++ zs))
    ∙ ap (λ us. xs ++ (f us ++ drop (length ys) (ys ++ zs))) (take-append_seam ys zs)
    ∙ ap (λ us. xs ++ (f ys ++ us)) (drop-append_seam ys zs)

up_at_most : {X : Type 0} (f : List X → List X) (q k : ℕ) (xs : List X) → k ≡ min q (length xs)
    → moved_up k f xs ≡ moved_up q f xs
up_at_most f q k xs k_is =
    ap (λ ys. ys ++ f (take k xs)) (drop_at_most q k xs k_is)
    ∙ ap (λ ys. drop q xs ++ f ys) (take_at_most q k xs k_is)

pub part_up_is : {X : Type 0} (f : List X → List X) (m n e q k : ℕ) (xs us ys : List X)
    → e ≡ min n (length xs) → m < e → k ≡ min q (e - m) → us ≡ in_part m e (turned_up k) xs
    → ys ≡ in_part (e - k) e f us → ys ≡ in_part m n (moved_up q f) xs
part_up_is f m n e q k xs us ys e_is less k_is turned changed =
    let head = take m xs in
    let part = take (e - m) (drop m xs) in
    let rest = drop (e - m) (drop m xs) in
    let before = head ++ drop k part in
    let m_is : length head ≡ m = length-take-le m xs (omega (arith, e_is, less)) in
    let there : length (drop m xs) ≡ length xs - m = length-drop m xs in
    let many : length part ≡ e - m =
    length-take-le (e - m) (drop m xs) (omega (arith, there, e_is, less)) in
    let gone : length (drop k part) ≡ length part - k = length-drop k part in
    let first : length before ≡ e - k = omega (
      arith,
      length-append head (drop k part),
      m_is,
      gone,
      many,
      k_is,
      less,
    ) in
    let last : length before + length (take k part) ≡ e = omega (
      arith,
      first,
      length-take-le k part (omega (arith, many, k_is)),
      k_is,
      less,
    ) in
    changed
    ∙ ap (in_part (e - k) e f) (turned
    ∙ ap (λ zs. head ++ zs) (append_assoc (drop k part) (take k part) rest)
    ∙ sym (append_assoc head (drop k part) (take k part ++ rest)))
    ∙ in_middle f (e - k) e before (take k part) rest first last
    ∙ append_assoc head (drop k part) (f (take k part) ++ rest)
    ∙ ap (λ zs. head ++ zs) (sym (append_assoc (drop k part) (f (take k part)) rest))
    ∙ ap (λ zs. head ++ (zs ++ rest)) (up_at_most f q k part (k_is ∙ ap (min q) (sym many)))
    ∙ in_part_is (moved_up q f) m n e xs (moved_up q f part) e_is refl

pub part_down_is : {X : Type 0} (f : List X → List X) (m n e q k : ℕ) (xs us ys : List X)
    → e ≡ min n (length xs) → m < e → k ≡ min q (e - m) → us ≡ in_part m e (turned_down k) xs
    → ys ≡ in_part m (m + k) f us → ys ≡ in_part m n (moved_down q f) xs
part_down_is f m n e q k xs us ys e_is less k_is turned changed =
    let head = take m xs in
    let part = take (e - m) (drop m xs) in
    let rest = drop (e - m) (drop m xs) in
    let m_is : length head ≡ m = length-take-le m xs (omega (arith, e_is, less)) in
    let there : length (drop m xs) ≡ length xs - m = length-drop m xs in
    let many : length part ≡ e - m =
    length-take-le (e - m) (drop m xs) (omega (arith, there, e_is, less)) in
    let j = length part - k in
    let alike : j ≡ length part - q = omega (arith, many, k_is) in
    let last : length head + length (drop j part) ≡ m + k = omega (
      arith,
      m_is,
      length-drop j part,
      many,
      k_is,
    ) in
    changed
    ∙ ap (in_part m (m + k) f) (turned
    ∙ ap (λ zs. head ++ zs) (append_assoc (drop j part) (take j part) rest))
    ∙ in_middle f m (m + k) head (drop j part) (take j part ++ rest) m_is last
    ∙ ap (λ zs. head ++ zs) (sym (append_assoc (f (drop j part)) (take j part) rest))
    ∙ ap (λ i. head ++ ((f (drop i part) ++ take i part) ++ rest)) alike
    ∙ in_part_is (moved_down q f) m n e xs (moved_down q f part) e_is refl
