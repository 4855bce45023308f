-- Cells that are the same on two screens, and the part of a row before the first other one.
use Rattle.std.proofs.Common.{ℕ, suc, ◌≡◌, ◌+◌, ◌==◌, ◌<◌, ◌≤◌, min, nat_lt, Bool, true, false, not, ◌&&◌, ◌||◌, List, [], ◌∷◌, length, map, take, drop, get_or, Option, None, Some, inl, inr, if◌then◌else◌, refl, ap, sym, subst, ◌∙◌, arith}
use Rattle.std.proofs.Math.Bool.{beq}
use Rattle.std.proofs.lemmas.Bool.{and_parts, cases_Bool, eq-eqb, eqb-true, true≢false}
use Rattle.std.proofs.lemmas.Bool.Decides.{nat_tests}
use Rattle.std.proofs.lemmas.List.{drop_all, drop_more}
use Rattle.typed_functions.specs.Numbers.{ansi_color_number}
use Rattle.esc_sgr.specs.Sgr.{same_color, same_flags, same_look, underline_code}
use Rattle.esc_style.specs.declared.color.Color.{Color}
use Rattle.esc_style.specs.declared.color.Color.TheVariants as color
use Rattle.esc_style.specs.declared.look.Look.{Look}
use Rattle.esc_screen.specs.Cells.{blank, is_rest, is_rest_content}
use Rattle.esc_screen.specs.Halves.{GoOn, is_wide, is_wide_content}
use Rattle.esc_screen.specs.declared.cell.Cell.{Cell}
use Rattle.esc_screen.specs.declared.content.Content.{Content}
use Rattle.esc_screen.specs.declared.content.Content.TheVariants as content
use Rattle.esc_screen.specs.declared.marks.Marks.{Marks}
use Rattle.esc_paint.specs.Differences.{same_cell, same_cells, same_content, same_mark, same_marks, seen}
use Rattle.esc_paint.proofs.Rows.{begins_free}

-- ---- lists that are the same

pub head_is : {X : Type 0} (a b : X) (xs ys : List X) → a ∷ xs ≡ b ∷ ys → a ≡ b
head_is a b xs ys h = cc

pub tail_is : {X : Type 0} (a b : X) (xs ys : List X) → a ∷ xs ≡ b ∷ ys → xs ≡ ys
tail_is a b xs ys h = cc

pub not_empty : {X : Type 0} (a : X) (xs : List X) → [] ≡ a ∷ xs → ⊥
not_empty a xs h = cc

pub not_more : {X : Type 0} (a : X) (xs : List X) → a ∷ xs ≡ [] → ⊥
not_more a xs h = cc

-- ---- contents that are the same are one

pub bool_is : (x y : Bool) → beq x y ≡ true → x ≡ y
bool_is true true h = refl
bool_is true false h = absurd (true≢false (sym h))
bool_is false true h = absurd (true≢false (sym h))
bool_is false false h = refl

mark_is : (a b : Option ℕ) → same_mark a b ≡ true → a ≡ b
mark_is None None h = refl
mark_is None (Some d) h = absurd (true≢false (sym h))
mark_is (Some c) None h = absurd (true≢false (sym h))
mark_is (Some c) (Some d) h = ap Some (eqb-true c d h)

marks_are : (m n : Marks) → same_marks m n ≡ true → m ≡ n
marks_are m n h =
    let t = and_parts (same_mark m.first n.first && same_mark m.second n.second)
    (beq m.others n.others) h in
    let w = and_parts (same_mark m.first n.first) (same_mark m.second n.second) t.0 in
    ap (λ a. record m { first = a }) (mark_is m.first n.first w.0)
    ∙ ap (λ b. record m {
      first = n.first;
      second = b;
    }) (mark_is m.second n.second w.1)
    ∙ ap (λ o. record n { others = o }) (bool_is m.others n.others t.1)

drawn_is : (k : ℕ → Marks → Content) (c d : ℕ) (m n : Marks) → (c == d && same_marks m n) ≡ true
    → k c m ≡ k d n
drawn_is k c d m n h =
    let t = and_parts (c == d) (same_marks m n) h in
    ap (λ e. k e m) (eqb-true c d t.0) ∙ ap (k d) (marks_are m n t.1)

pub content_is : (a b : Content) → same_content a b ≡ true → a ≡ b
content_is content.Blank content.Blank h = refl
content_is content.Blank (content.Narrow d n) h = absurd (true≢false (sym h))
content_is content.Blank (content.Wide d n) h = absurd (true≢false (sym h))
content_is content.Blank content.Rest h = absurd (true≢false (sym h))
content_is (content.Narrow c m) content.Blank h = absurd (true≢false (sym h))
content_is (content.Narrow c m) (content.Narrow d n) h = drawn_is content.Narrow c d m n h
content_is (content.Narrow c m) (content.Wide d n) h = absurd (true≢false (sym h))
content_is (content.Narrow c m) content.Rest h = absurd (true≢false (sym h))
content_is (content.Wide c m) content.Blank h = absurd (true≢false (sym h))
content_is (content.Wide c m) (content.Narrow d n) h = absurd (true≢false (sym h))
content_is (content.Wide c m) (content.Wide d n) h = drawn_is content.Wide c d m n h
content_is (content.Wide c m) content.Rest h = absurd (true≢false (sym h))
content_is content.Rest content.Blank h = absurd (true≢false (sym h))
content_is content.Rest (content.Narrow d n) h = absurd (true≢false (sym h))
content_is content.Rest (content.Wide d n) h = absurd (true≢false (sym h))
content_is content.Rest content.Rest h = refl

cell_is : (f k : ℕ → Look) (x y : Cell) → same_cell f k x y ≡ true → x.content ≡ y.content
cell_is f k x y h =
    content_is x.content y.content (and_parts (same_content x.content y.content)
    (is_rest_content y.content
    || same_look (seen (f x.look) x.content) (seen (k y.look) y.content)) h).0

-- ---- second columns are always the same

rest_is : (c : Content) → is_rest_content c ≡ true → c ≡ content.Rest
rest_is content.Blank h = absurd (true≢false (sym h))
rest_is (content.Narrow c m) h = absurd (true≢false (sym h))
rest_is (content.Wide c m) h = absurd (true≢false (sym h))
rest_is content.Rest h = refl

rests_same : (f k : ℕ → Look) (x y : Cell) → is_rest x ≡ true → is_rest y ≡ true
    → same_cell f k x y ≡ true
rests_same f k x y h e =
    let l = f x.look in
    let m = k y.look in
    ap (λ a. same_content a y.content && (is_rest_content y.content
    || same_look (seen l a) (seen m y.content))) (rest_is x.content h)
    ∙ ap (λ b. same_content content.Rest b && (is_rest_content b
    || same_look (seen l content.Rest) (seen m b))) (rest_is y.content e)

-- ---- two rows

abbrev pub contents : List Cell → List Content
contents xs = map (λ x. x.content) xs

-- A row with these contents, where a number of its cells stay: either all do, or the others are
-- not, from a cell on that is no second column.
abbrev pub Parts : ℕ → List Cell → List Cell → Type 0
Parts n us ys = (nat_lt n (length ys) ≡ true
    → (contents (take n us) ≡ contents (take n ys)) × (begins_free (drop n us) ≡ true)
    × GoOn false (drop n ys))
    × (nat_lt n (length ys) ≡ false → contents us ≡ contents ys)

one_less : (a b : ℕ) → nat_lt (suc a) (suc b) ≡ nat_lt a b
one_less a b = grind (arith, nat_tests)

none : (n : ℕ) → nat_lt 0 (suc n) ≡ true
none n = grind (arith, nat_tests)

-- one more that is the same
more_parts : (n : ℕ) (u y : Cell) (us ys : List Cell) → u.content ≡ y.content → Parts n us ys
    → Parts (suc n) (u ∷ us) (y ∷ ys)
more_parts n u y us ys same h =
    let fewer : (t : Bool) → nat_lt (suc n) (suc (length ys)) ≡ t → nat_lt n (length ys) ≡ t =
    λ t e. sym (one_less n (length ys)) ∙ e in (
      λ t. let k = h.0 (fewer true t) in (
        ap (λ c. c ∷ contents (take n us)) same ∙ ap (λ z. y.content ∷ z) k.0,
        k.1,
        k.2,
      ),
      λ t. ap (λ c. c ∷ contents us) same ∙ ap (λ z. y.content ∷ z) (h.1 (fewer false t)),
    )

-- a first cell that is not the same is no second column
not_due : (f k : ℕ → Look) (w : Bool) (x y : Cell) → is_rest x ≡ w → is_rest y ≡ w
    → same_cell f k x y ≡ false → w ≡ false
not_due f k true x y h e other = absurd (true≢false (sym (rests_same f k x y h e) ∙ other))
not_due f k false x y h e other = refl

pub parts : (f k : ℕ → Look) (w : Bool) (us xs ys : List Cell) → contents us ≡ contents xs
    → GoOn w us → GoOn w ys → length us ≡ length ys → Parts (same_cells f k xs ys) us ys
parts f k w [] [] [] same go on len = ((λ t. absurd (true≢false (sym t))), (λ t. refl))
parts f k w [] [] (y ∷ ys) same go on len = absurd (omega (arith, len))
parts f k w [] (x ∷ xs) ys same go on len = absurd (not_empty x.content (contents xs) same)
parts f k w (u ∷ us) [] ys same go on len = absurd (not_more u.content (contents us) same)
parts f k w (u ∷ us) (x ∷ xs) [] same go on len = absurd (omega (arith, len))
parts f k w (u ∷ us) (x ∷ xs) (y ∷ ys) same go on len =
    let first = head_is u.content x.content (contents us) (contents xs) same in
    let others = tail_is u.content x.content (contents us) (contents xs) same in
    let fewer : length us ≡ length ys = omega (arith, len) in
    by_test (same_cell f k x y) refl first
    (λ more. parts f k (is_wide u) us xs ys others go.1 more fewer)
  where
    by_test : (t : Bool) → same_cell f k x y ≡ t → u.content ≡ x.content
        → (GoOn (is_wide u) ys → Parts (same_cells f k xs ys) us ys)
        → Parts (if t then suc (same_cells f k xs ys) else 0) (u ∷ us) (y ∷ ys)
    by_test true is first rest =
        let both : u.content ≡ y.content = first ∙ cell_is f k x y is in
        let more : GoOn (is_wide u) ys =
        subst (λ c. GoOn (is_wide_content c) ys) (sym both) on.1 in
        more_parts (same_cells f k xs ys) u y us ys both (rest more)
    by_test false is first rest =
        let here : is_rest x ≡ w = ap is_rest_content (sym first) ∙ go.0 in
        let no : w ≡ false = not_due f k w x y here on.0 is in (
          λ t. (refl, ap not (go.0 ∙ no), (on.0 ∙ no, on.1)),
          λ t. absurd (true≢false (sym (none (length ys)) ∙ t)),
        )

-- ---- rows of which no cell is another

pub same_contents : (f k : ℕ → Look) (xs ys : List Cell) → length xs ≡ length ys
    → nat_lt (same_cells f k xs ys) (length ys) ≡ false → contents xs ≡ contents ys
same_contents f k [] [] len all = refl
same_contents f k [] (y ∷ ys) len all = absurd (omega (arith, len))
same_contents f k (x ∷ xs) [] len all = absurd (omega (arith, len))
same_contents f k (x ∷ xs) (y ∷ ys) len all =
    let fewer : length xs ≡ length ys = omega (arith, len) in
    by_test (same_cell f k x y) refl all (λ past. same_contents f k xs ys fewer past)
  where
    by_test : (t : Bool) → same_cell f k x y ≡ t
        → nat_lt (if t then suc (same_cells f k xs ys) else 0) (suc (length ys)) ≡ false
        → (nat_lt (same_cells f k xs ys) (length ys) ≡ false → contents xs ≡ contents ys)
        → contents (x ∷ xs) ≡ contents (y ∷ ys)
    by_test true is past rest =
        ap (λ c. c ∷ contents xs) (cell_is f k x y is)
        ∙ ap (λ z. y.content ∷ z)
        (rest (sym (one_less (same_cells f k xs ys) (length ys)) ∙ past))
    by_test false is past rest = absurd (true≢false (sym (none (length ys)) ∙ past))

-- ---- the loop over two rows

pub same_more : (f k : ℕ → Look) (i : ℕ) (xs ys : List Cell) → i < length xs → i < length ys
    → same_cell f k (get_or xs i (blank 0)) (get_or ys i (blank 0)) ≡ true
    → same_cells f k (drop i xs) (drop i ys)
    ≡ suc (same_cells f k (drop (i + 1) xs) (drop (i + 1) ys))
same_more f k i xs ys less fewer is =
    let d = blank 0 in
    let n = same_cells f k (drop (i + 1) xs) (drop (i + 1) ys) in
    ap (λ z. same_cells f k z (drop i ys)) (drop_more xs i d less)
    ∙ ap (same_cells f k (get_or xs i d ∷ drop (i + 1) xs)) (drop_more ys i d fewer)
    ∙ ap (λ t. if t then suc n else 0) is

pub same_stops : (f k : ℕ → Look) (i : ℕ) (xs ys : List Cell) → i < length xs → i < length ys
    → same_cell f k (get_or xs i (blank 0)) (get_or ys i (blank 0)) ≡ false
    → same_cells f k (drop i xs) (drop i ys) ≡ 0
same_stops f k i xs ys less fewer is =
    let d = blank 0 in
    let n = same_cells f k (drop (i + 1) xs) (drop (i + 1) ys) in
    ap (λ z. same_cells f k z (drop i ys)) (drop_more xs i d less)
    ∙ ap (same_cells f k (get_or xs i d ∷ drop (i + 1) xs)) (drop_more ys i d fewer)
    ∙ ap (λ t. if t then suc n else 0) is

none_first : (f k : ℕ → Look) (xs ys : List Cell) → xs ≡ [] → same_cells f k xs ys ≡ 0
none_first f k [] ys h = refl
none_first f k (x ∷ xs) ys h = absurd (not_more x xs h)

none_second : (f k : ℕ → Look) (xs ys : List Cell) → ys ≡ [] → same_cells f k xs ys ≡ 0
none_second f k [] ys h = refl
none_second f k (x ∷ xs) [] h = refl
none_second f k (x ∷ xs) (y ∷ ys) h = absurd (not_more y ys h)

pub same_ends : (f k : ℕ → Look) (i : ℕ) (xs ys : List Cell) → min (length xs) (length ys) ≤ i
    → same_cells f k (drop i xs) (drop i ys) ≡ 0
same_ends f k i xs ys all =
    elim (cases_Bool (nat_lt (length xs) (length ys))) [
      | inl held ↦
          let less : length xs < length ys = grind (arith, nat_tests) in
          let past : length xs ≤ i = omega (arith, less, all) in
          none_first f k (drop i xs) (drop i ys) (drop_all i xs past)
      | inr failed ↦
          let most : length ys ≤ length xs = grind (arith, nat_tests) in
          let past : length ys ≤ i = omega (arith, most, all) in
          none_second f k (drop i xs) (drop i ys) (drop_all i ys past)
    ]

-- ---- a row and itself

pub bool_same : (b : Bool) → beq b b ≡ true
bool_same true = refl
bool_same false = refl

pub number_same : (n : ℕ) → (n == n) ≡ true
number_same n = eq-eqb n n refl

pub both_same : (a b : Bool) → a ≡ true → b ≡ true → (a && b) ≡ true
both_same a b h e = ap (λ t. t && b) h ∙ e

mark_same : (a : Option ℕ) → same_mark a a ≡ true
mark_same None = refl
mark_same (Some c) = number_same c

marks_same : (m : Marks) → same_marks m m ≡ true
marks_same m = both_same _ _ (both_same _ _ (mark_same m.first) (mark_same m.second))
    (bool_same m.others)

content_same : (c : Content) → same_content c c ≡ true
content_same content.Blank = refl
content_same (content.Narrow c m) = both_same _ _ (number_same c) (marks_same m)
content_same (content.Wide c m) = both_same _ _ (number_same c) (marks_same m)
content_same content.Rest = refl

color_same : (c : Color) → same_color c c ≡ true
color_same color.Default = refl
color_same (color.Named c) = number_same (ansi_color_number c)
color_same (color.Palette n) = number_same n
color_same (color.Direct c) = both_same _ _ (both_same _ _ (number_same c.0) (number_same c.1))
    (number_same c.2)

flags_same : (l : Look) → same_flags l l ≡ true
flags_same l =
    both_same _ _ (both_same _ _ (both_same _ _ (both_same _ _ (both_same _ _ (both_same _ _
    (both_same _ _ (bool_same l.bold) (bool_same l.faint)) (bool_same l.italic))
    (bool_same l.blink)) (bool_same l.inverse)) (bool_same l.concealed))
    (bool_same l.strikethrough)) (bool_same l.overline)

look_same : (l : Look) → same_look l l ≡ true
look_same l =
    both_same _ _ (both_same _ _ (both_same _ _
    (both_same _ _ (number_same (underline_code l.underline)) (flags_same l))
    (color_same l.foreground)) (color_same l.background)) (color_same l.underline_color)

either_same : (a b : Bool) → b ≡ true → (a || b) ≡ true
either_same true b h = refl
either_same false b h = h

cell_same : (f : ℕ → Look) (x : Cell) → same_cell f f x x ≡ true
cell_same f x = both_same _ _ (content_same x.content)
    (either_same _ _ (look_same (seen (f x.look) x.content)))

pub all_same : (f : ℕ → Look) (xs : List Cell) → same_cells f f xs xs ≡ length xs
all_same f [] = refl
all_same f (x ∷ xs) =
    ap (λ t. if t then suc (same_cells f f xs xs) else 0) (cell_same f x)
    ∙ ap suc (all_same f xs)
