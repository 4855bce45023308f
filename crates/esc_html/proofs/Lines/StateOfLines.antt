-- The state of a writer of lines after a text.
use Rattle.std.proofs.Common.{ℕ, zero, suc, ◌≡◌, ◌≤◌, ◌<◌, ◌+◌, ◌^◌, min, false, true, Bool, List, [], ◌∷◌, ◌++◌, codes, length, take, drop, get_or, Some, Result, Ok, Err, OnOk, refl, ap, sym, ◌∙◌, append_assoc, string_bytes, arith}
use Rattle.std.specs.Fmt.{decimal}
use Rattle.std.specs.List.{list_all}
use Rattle.std.proofs.lemmas.Bool.{false_from_ne_true, eqb-true}
use Rattle.std.proofs.lemmas.Bool.Decides.{nat_tests}
use Rattle.memchr.specs.Find.{is_byte, IsFirstByte}
use Rattle.esc_html.specs.Lines.{begin_unless, end_if, highest, lined_page, next_number, number_after, numeral, open_after, open_by, with_part}
use Rattle.esc_html.specs.Lining.{EndsLines, TakesLines, WasLined}
use Rattle.esc_html.specs.declared.line_writer.LineWriter.{LineWriter}
use Rattle.esc_html.proofs.Lines.LinedPartByPart.{line_lined, line_number, line_open, lined_more, number_more, open_more, part_lined, part_number, part_open, stays}

-- ---- the next line feed

pub none_stay : (x : List ℕ)
    → ((k : ℕ) → 0 ≤ k → k < length x → is_byte 0x0a (get_or x k 0) ≡ true → ⊥)
    → list_all stays x ≡ true
none_stay [] h = refl
none_stay (b ∷ x) h =
    rw (false_from_ne_true (is_byte 0x0a b) (h 0 (omega arith) (omega arith)))
    (none_stay x (λ k l m. h (suc k) (omega arith) (omega (arith, m))))

first_stay : (x : List ℕ) (n : ℕ) → n < length x
    → ((k : ℕ) → 0 ≤ k → k < n → is_byte 0x0a (get_or x k 0) ≡ true → ⊥)
    → list_all stays (take n x) ≡ true
first_stay [] n l h = absurd (omega (arith, l))
first_stay (b ∷ x) zero l h = refl
first_stay (b ∷ x) (suc n) l h =
    rw (false_from_ne_true (is_byte 0x0a b) (h 0 (omega arith) (omega arith)))
    (first_stay x n (omega (arith, l)) (λ k i m. h (suc k) (omega arith) (omega (arith, m))))

cut_at : (x : List ℕ) (n : ℕ) → n < length x → is_byte 0x0a (get_or x n 0) ≡ true
    → x ≡ take n x ++ 0x0a ∷ drop (n + 1) x
cut_at [] n l e = absurd (omega (arith, l))
cut_at (b ∷ x) zero l e = ap (λ c. c ∷ x) (eqb-true b 0x0a e)
cut_at (b ∷ x) (suc n) l e =
    ap (λ y. b ∷ y) (cut_at x n (omega (arith, l)) e
    ∙ ap (λ k. take n x ++ 0x0a ∷ drop k (b ∷ x)) (sym (more n)))
  where
    more : (n : ℕ) → suc n + 1 ≡ suc (n + 1)
    more n = omega arith

-- a line that was added, and the rest
module _ (rest : List ℕ) (at : ℕ) (f : IsFirstByte (is_byte 0x0a) rest (Some at)) where
  run_stays : list_all stays (take at rest) ≡ true
  run_stays = first_stay rest at f.0.high f.0.before

  pub line_of : (n : ℕ) (o : Bool)
      → lined_page n o rest
      ≡ (begin_unless o n ++ (take at rest ++ codes "\n</span>"))
      ++ lined_page (next_number n) false (drop (at + 1) rest)
  line_of n o =
      ap (lined_page n o) (cut_at rest at f.0.high f.1)
      ∙ line_lined n o (take at rest) (drop (at + 1) rest) run_stays

  pub number_of : (n : ℕ) → number_after n rest ≡ number_after (next_number n) (drop (at + 1) rest)
  number_of n =
      ap (number_after n) (cut_at rest at f.0.high f.1)
      ∙ line_number n (take at rest) (drop (at + 1) rest) run_stays

  pub open_of : (o : Bool) → open_after o rest ≡ open_after false (drop (at + 1) rest)
  open_of o = ap (open_after o) (cut_at rest at f.0.high f.1)
      ∙ line_open o (take at rest) (drop (at + 1) rest)

pub feed_small : (b : ℕ) → is_byte 0x0a b ≡ true → b < 128
feed_small b h = grind (arith, nat_tests)

-- if a line was added, the writer still has the rest of the text
pub line_taken : {A : Type 0} (v w : LineWriter A) (rest run later want : List ℕ) (at : ℕ)
    → IsFirstByte (is_byte 0x0a) rest (Some at) → run ≡ take at rest
    → later ≡ drop (at + 1) rest
    → string_bytes w.text ≡ string_bytes v.text
    ++ (begin_unless v.is_open v.number ++ (run ++ codes "\n</span>"))
    → (w.number ≡ next_number v.number) × (w.is_open ≡ false)
    → string_bytes v.text ++ lined_page v.number v.is_open rest ≡ want
    → string_bytes w.text ++ lined_page w.number w.is_open later ≡ want
line_taken v w rest run later want at f i j text (number, shut) h =
    let old = string_bytes v.text in
    let begun = begin_unless v.is_open v.number in
    let n = next_number v.number in
    ap (λ t. t ++ lined_page w.number w.is_open later) text
    ∙ ap (λ k. (old ++ (begun ++ (run ++ codes "\n</span>"))) ++ lined_page k w.is_open later) number
    ∙ ap (λ o. (old ++ (begun ++ (run ++ codes "\n</span>"))) ++ lined_page n o later) shut
    ∙ ap (λ x. (old ++ (begun ++ (x ++ codes "\n</span>"))) ++ lined_page n false later) i
    ∙ ap (λ x. (old ++ (begun ++ (take at rest ++ codes "\n</span>"))) ++ lined_page n false x) j
    ∙ append_assoc old (begun ++ (take at rest ++ codes "\n</span>"))
    (lined_page n false (drop (at + 1) rest))
    ∙ ap (λ x. old ++ x) (sym (line_of rest at f v.number v.is_open)) ∙ h

pub number_taken : (m n : ℕ) (rest later : List ℕ) (at want : ℕ)
    → IsFirstByte (is_byte 0x0a) rest (Some at) → later ≡ drop (at + 1) rest
    → n ≡ next_number m → number_after m rest ≡ want → number_after n later ≡ want
number_taken m n rest later at want f j is h =
    ap (λ k. number_after k later) is ∙ ap (number_after (next_number m)) j
    ∙ sym (number_of rest at f m) ∙ h

pub open_taken : (o p : Bool) (rest later : List ℕ) (at : ℕ) (want : Bool)
    → IsFirstByte (is_byte 0x0a) rest (Some at) → later ≡ drop (at + 1) rest
    → p ≡ false → open_after o rest ≡ want → open_after p later ≡ want
open_taken o p rest later at want f j is h =
    ap (λ q. open_after q later) is ∙ ap (open_after false) j ∙ sym (open_of rest at f o) ∙ h

-- ---- a text that was taken

pub on_ok_both : {X E : Type 0} (P Q R : Type 0) (r : Result X E) → (P → Q → R) → OnOk r P
    → OnOk r Q → OnOk r R
on_ok_both P Q R (Ok x) f p q = f p q
on_ok_both P Q R (Err e) f p q = tt

pub taken : {A : Type 0} (first : ℕ) (s t : List ℕ) (v w : LineWriter A)
    → WasLined first s v → string_bytes w.text ≡ lined_page v.number v.is_open t
    → w.number ≡ number_after v.number t → w.is_open ≡ open_after v.is_open t
    → TakesLines first s t w
taken first s t v w h text number o = (
  record {
    number = number ∙ ap (λ n. number_after n t) h.number ∙ sym (number_more first s t);
    begun = o ∙ ap (λ p. open_after p t) h.begun ∙ sym (open_more false s t);
  },
  lined_more first false s t
      ∙ ap (λ x. lined_page first false s ++ x)
      (ap (λ n. lined_page n (open_after false s) t) (sym h.number)
      ∙ ap (λ o. lined_page v.number o t) (sym h.begun) ∙ sym text),
)

-- the last part of it, which ends no line
pub last_taken : {A : Type 0} (first : ℕ) (s t rest : List ℕ) (v l w : LineWriter A)
    → WasLined first s v → list_all stays rest ≡ true
    → string_bytes l.text ++ lined_page l.number l.is_open rest ≡ lined_page v.number v.is_open t
    → number_after l.number rest ≡ number_after v.number t
    → open_after l.is_open rest ≡ open_after v.is_open t
    → string_bytes w.text ≡ string_bytes l.text ++ with_part l.number l.is_open rest
    → (w.number ≡ l.number) × (w.is_open ≡ open_by l.is_open rest)
    → TakesLines first s t w
last_taken first s t rest v l w h stay text number begun new (same, opened) =
    taken first s t v w h
    (new ∙ ap (λ x. string_bytes l.text ++ x) (sym (part_lined l.number l.is_open rest stay))
    ∙ text)
    (same ∙ sym (part_number l.number rest stay) ∙ number)
    (opened ∙ sym (part_open l.is_open rest stay) ∙ begun)

pub at_end : {A : Type 0} (first : ℕ) (s t x : List ℕ) (w z : LineWriter A)
    → TakesLines first s t w → string_bytes z.text ≡ string_bytes w.text ++ x
    → end_if w.is_open ≡ x → EndsLines first s t z
at_end first s t x w z (h, e) text is =
    ap (λ y. y ++ end_if (open_after false (s ++ t))) e
    ∙ ap (λ o. (lined_page first false s ++ string_bytes w.text) ++ end_if o) (sym h.begun)
    ∙ append_assoc (lined_page first false s) (string_bytes w.text) (end_if w.is_open)
    ∙ ap (λ y. lined_page first false s ++ (string_bytes w.text ++ y)) is
    ∙ ap (λ y. lined_page first false s ++ y) (sym text)

-- ---- the beginning of a line

pub begun_text : (old one two a d b c : List ℕ) → one ≡ old ++ (a ++ d) → two ≡ one ++ (b ++ d)
    → two ++ c ≡ old ++ (a ++ (d ++ (b ++ (d ++ c))))
begun_text old one two a d b c e1 e2 =
    ap (λ x. x ++ c) (e2 ∙ ap (λ x. x ++ (b ++ d)) e1)
    ∙ append_assoc (old ++ (a ++ d)) (b ++ d) c
    ∙ ap (λ x. (old ++ (a ++ d)) ++ x) (append_assoc b d c)
    ∙ append_assoc old (a ++ d) (b ++ (d ++ c))
    ∙ ap (λ x. old ++ x) (append_assoc a d (b ++ (d ++ c)))

pub number_text : (n : ℕ) → n < 2 ^ 64 → decimal n ≡ numeral n
number_text n h =
    let same : n ≡ min n highest = omega (arith, h) in ap decimal same
