-- The text of lines in elements: part by part.
use Rattle.std.proofs.Common.{ℕ, suc, ◌≡◌, ◌≤◌, ◌+◌, ◌*◌, ◌==◌, Bool, true, false, not, if◌then◌else◌, List, [], ◌∷◌, ◌++◌, codes, length, min, refl, ap, sym, ◌∙◌, append_assoc, arith}
use Rattle.std.specs.List.{list_all}
use Rattle.std.proofs.lemmas.Bool.{and_parts, leb-true, not-true}
use Rattle.std.proofs.lemmas.List.{append-nil, length-append}
use Rattle.std.proofs.lemmas.Fmt.{length-decimal-le}
use Rattle.esc_html.specs.Lines.{begin_unless, end_if, feeds, highest, in_lines, line_begin, line_end, lined_page, next_number, number_after, numeral, open_after, open_by, with_part}

-- a byte that ends no line
abbrev pub stays : ℕ → Bool
stays b = not (b == 0x0a)

-- ---- one text after another

abbrev next_if : Bool → ℕ → ℕ
next_if x n = if x then next_number n else n

abbrev rest_if : Bool → ℕ → List ℕ → List ℕ
rest_if x n t = if x then line_end ++ lined_page (next_number n) false t else lined_page n true t

pub lined_more : (n : ℕ) (o : Bool) (s t : List ℕ)
    → lined_page n o (s ++ t) ≡ lined_page n o s ++ lined_page (number_after n s) (open_after o s) t
lined_more n o [] t = refl
lined_more n o (b ∷ s) t =
    ap (λ x. begin_unless o n ++ (b ∷ x)) (by (λ m p. lined_more m p s t) (b == 0x0a))
    ∙ sym (append_assoc (begin_unless o n) (b ∷ rest_if (b == 0x0a) n s)
    (lined_page (number_after n (b ∷ s)) (open_after o (b ∷ s)) t))
  where
    by : ((m : ℕ) (p : Bool) → lined_page m p (s ++ t)
        ≡ lined_page m p s ++ lined_page (number_after m s) (open_after p s) t)
        → (x : Bool) → rest_if x n (s ++ t)
        ≡ rest_if x n s ++ lined_page (number_after (next_if x n) s) (open_after (not x) s) t
    by more true = ap (λ y. line_end ++ y) (more (next_number n) false)
        ∙ sym (append_assoc line_end (lined_page (next_number n) false s)
        (lined_page (number_after (next_number n) s) (open_after false s) t))
    by more false = more n true

pub number_more : (n : ℕ) (s t : List ℕ)
    → number_after n (s ++ t) ≡ number_after (number_after n s) t
number_more n [] t = refl
number_more n (b ∷ s) t = number_more (next_if (b == 0x0a) n) s t

pub open_more : (o : Bool) (s t : List ℕ) → open_after o (s ++ t) ≡ open_after (open_after o s) t
open_more o [] t = refl
open_more o (b ∷ s) t = open_more (not (b == 0x0a)) s t

-- ---- a part that ends no line

pub part_in_line : (n : ℕ) (s t : List ℕ) → list_all stays s ≡ true
    → lined_page n true (s ++ t) ≡ s ++ lined_page n true t
part_in_line n [] t h = refl
part_in_line n (b ∷ s) t h =
    let q = and_parts (stays b) (list_all stays s) h in
    rw (not-true (b == 0x0a) q.0) (ap (λ x. b ∷ x) (part_in_line n s t q.1))

-- if a byte comes, the line is begun
pub begun_line : (n : ℕ) (o : Bool) (b : ℕ) (t : List ℕ)
    → lined_page n o (b ∷ t) ≡ begin_unless o n ++ lined_page n true (b ∷ t)
begun_line n o b t = refl

pub part_lined : (n : ℕ) (o : Bool) (s : List ℕ) → list_all stays s ≡ true
    → lined_page n o s ≡ with_part n o s
part_lined n o [] h = refl
part_lined n o (b ∷ s) h =
    begun_line n o b s
    ∙ ap (λ x. begin_unless o n ++ lined_page n true x) (sym (append-nil (b ∷ s)))
    ∙ ap (λ x. begin_unless o n ++ x) (part_in_line n (b ∷ s) [] h)
    ∙ ap (λ x. begin_unless o n ++ x) (append-nil (b ∷ s))

pub part_number : (n : ℕ) (s : List ℕ) → list_all stays s ≡ true → number_after n s ≡ n
part_number n [] h = refl
part_number n (b ∷ s) h =
    let q = and_parts (stays b) (list_all stays s) h in
    rw (not-true (b == 0x0a) q.0) (part_number n s q.1)

pub part_open : (o : Bool) (s : List ℕ) → list_all stays s ≡ true → open_after o s ≡ open_by o s
part_open o [] h = refl
part_open o (b ∷ s) h =
    let q = and_parts (stays b) (list_all stays s) h in
    rw (not-true (b == 0x0a) q.0) (stays_open s q.1)
  where
    stays_open : (s : List ℕ) → list_all stays s ≡ true → open_after true s ≡ true
    stays_open [] h = refl
    stays_open (c ∷ s) h =
        let q = and_parts (stays c) (list_all stays s) h in
        rw (not-true (c == 0x0a) q.0) (stays_open s q.1)

-- a line with its line feed, and the rest
pub line_lined : (n : ℕ) (o : Bool) (s t : List ℕ) → list_all stays s ≡ true
    → lined_page n o (s ++ 0x0a ∷ t)
    ≡ (begin_unless o n ++ (s ++ codes "\n</span>")) ++ lined_page (next_number n) false t
line_lined n o [] t h =
    sym (append_assoc (begin_unless o n) (codes "\n</span>") (lined_page (next_number n) false t))
line_lined n o (b ∷ s) t h =
    ap (λ x. begin_unless o n ++ x) (part_in_line n (b ∷ s) (0x0a ∷ t) h
    ∙ sym (append_assoc (b ∷ s) (codes "\n</span>") (lined_page (next_number n) false t)))
    ∙ sym (append_assoc (begin_unless o n) ((b ∷ s) ++ codes "\n</span>")
    (lined_page (next_number n) false t))

pub line_number : (n : ℕ) (s t : List ℕ) → list_all stays s ≡ true
    → number_after n (s ++ 0x0a ∷ t) ≡ number_after (next_number n) t
line_number n s t h =
    number_more n s (0x0a ∷ t) ∙ ap (λ k. number_after k (0x0a ∷ t)) (part_number n s h)

pub line_open : (o : Bool) (s t : List ℕ) → open_after o (s ++ 0x0a ∷ t) ≡ open_after false t
line_open o s t = open_more o s (0x0a ∷ t)

-- ---- how much longer a text becomes

numeral_size : (n : ℕ) → length (numeral n) ≤ 20
numeral_size n =
    let m = min n highest in
    length-decimal-le 20 m (omega arith) (omega arith) (omega arith)

pub begin_size : (n : ℕ) → length (line_begin n) ≤ 119
begin_size n =
    let d = numeral n in
    let a : length (codes "<span class=\"es-line\" id=\"L") ≡ 27 = refl in
    let b : length (codes "\"><a href=\"#L") ≡ 13 = refl in
    let c : length (codes "\" tabindex=\"-1\" aria-hidden=\"true\"></a>") ≡ 39 = refl in
    let last = codes "\" tabindex=\"-1\" aria-hidden=\"true\"></a>" in
    let mid = codes "\"><a href=\"#L" in
    omega (
      arith,
      a,
      b,
      c,
      length-append (codes "<span class=\"es-line\" id=\"L") (d ++ (mid ++ (d ++ last))),
      length-append d (mid ++ (d ++ last)),
      length-append mid (d ++ last),
      length-append d last,
      numeral_size n,
    )

-- with the end of the last line
abbrev ended : ℕ → Bool → List ℕ → List ℕ
ended n o t = lined_page n o t ++ end_if (open_after o t)

-- with a line that is open, and with none
shut_size : (n : ℕ) (t : List ℕ) → length (ended n true t) ≤ length t + 126 * feeds t + 7
    → length (ended n false t) ≤ length t + 126 * feeds t + 126
shut_size n [] h = leb-true 0 126 refl
shut_size n (b ∷ t) h =
    omega (
      arith,
      h,
      ap length (append_assoc (line_begin n) (lined_page n true (b ∷ t))
          (end_if (open_after true (b ∷ t)))),
      length-append (line_begin n) (ended n true (b ∷ t)),
      begin_size n,
    )

open_size : (n : ℕ) (t : List ℕ) → length (ended n true t) ≤ length t + 126 * feeds t + 7
open_size n [] = leb-true 7 7 refl
open_size n (b ∷ t) = by (λ m. open_size m t) (b == 0x0a)
  where
    by : ((m : ℕ) → length (ended m true t) ≤ length t + 126 * feeds t + 7)
        → (x : Bool) → length ((b ∷ rest_if x n t) ++ end_if (open_after (not x) t))
        ≤ suc (length t) + 126 * ((if x then 1 else 0) + feeds t) + 7
    by size true =
        let m = next_number n in
        let rest = lined_page m false t in
        let e = end_if (open_after false t) in
        let seven : length line_end ≡ 7 = refl in
        omega (
          arith,
          shut_size m t (size m),
          ap length (append_assoc line_end rest e),
          length-append line_end (rest ++ e),
          seven,
        )
    by size false = omega (arith, size n)

pub lined_size : (n : ℕ) (t : List ℕ) → length (in_lines n t) ≤ length t + 126 * (feeds t + 1)
lined_size n t = omega (arith, shut_size n t (open_size n t))
