-- The account of lines, one after another.
use Rattle.std.proofs.Common.{ℕ, suc, ◌≡◌, None, ◌+◌, ◌<◌, Bool, true, false, if◌then◌else◌, List, [], ◌∷◌, ◌++◌, length, refl, sym, ap, ◌∙◌, subst, append_assoc, append-nil, arith, length-append}
use Rattle.esc_filter.specs.Lines.{is_line_feed, has_line_feed, IsLine, begin_with, ends_line, lines}
use Rattle.esc_filter.proofs.ByLine.BytesOfLines.{ends_append, line_ends, lines_append, one_line, open_line}
use Rattle.esc_account.specs.Accounts.{Counts, Rule, all_passed, begun, feeds}
use Rattle.esc_account.proofs.Counts.FeedsAddUp.{feeds_more}
use Rattle.esc_account.specs.Entries.{Entry}
use Rattle.esc_account.specs.Ledgers.{HasRun, IsLineAccount, LineRuns, LinesRun, first}
use Rattle.esc_account.specs.declared.account.Account.{Account}

-- ---- lines, and more of them

next_same : (m n : ℕ) → suc m ≡ suc n → m ≡ n
next_same m n e = omega (arith, e)

pub run_more : (r : Rule) (x : Account) (ls ts : List (List ℕ)) (y : Account) (es : List Entry)
    (ks us : List (List ℕ)) (z : Account) (fs : List Entry) → length ls ≡ length ts
    → LinesRun r x ls ts y es → LinesRun r y ks us z fs
    → LinesRun r x (ls ++ ks) (ts ++ us) z (es ++ fs)
run_more r x [] [] y es ks us z fs e (a, b) more =
    subst (λ v. LinesRun r v ks us z (es ++ fs)) a
    (subst (λ v. LinesRun r y ks us z (v ++ fs)) (sym b) more)
run_more r x [] (t ∷ ts) y es ks us z fs e run more = absurd (omega (arith, e))
run_more r x (l ∷ ls) [] y es ks us z fs e run more = absurd (omega (arith, e))
run_more r x (l ∷ ls) (t ∷ ts) y es ks us z fs e (w, gs, hs, line, rest, is) more = (
  w,
  gs,
  hs ++ fs,
  line,
  run_more r w ls ts y hs ks us z fs (next_same (length ls) (length ts) e) rest more,
  ap (λ v. v ++ fs) is ∙ append_assoc gs hs fs,
)

pub run_one : (r : Rule) (x y : Account) (l t : List ℕ) (es : List Entry) → LineRuns r x l t y es
    → LinesRun r x (l ∷ []) (t ∷ []) y es
run_one r x y l t es run = (y, es, [], run, (refl, refl), sym (append-nil es))

-- ---- lines that were written as they came

abbrev joined_lines : List (List ℕ) → List ℕ
joined_lines [] = []
joined_lines (l ∷ ls) = l ++ joined_lines ls

joined_begin : (b : ℕ) (ls : List (List ℕ)) → joined_lines (begin_with b ls) ≡ b ∷ joined_lines ls
joined_begin b [] = refl
joined_begin b (l ∷ ls) = refl

lines_joined : (u : List ℕ) → joined_lines (lines u) ≡ u
lines_joined [] = refl
lines_joined (b ∷ u) = by (is_line_feed b) (lines_joined u)
  where
    by : (t : Bool) → joined_lines (lines u) ≡ u
        → joined_lines (if t then (b ∷ []) ∷ lines u else begin_with b (lines u)) ≡ b ∷ u
    by true h = ap (λ v. b ∷ v) h
    by false h = joined_begin b (lines u) ∙ ap (λ v. b ∷ v) h

more_passed : (p m n : ℕ) → p + m + n ≡ p + (m + n)
more_passed p m n = omega arith

pub passed_twice : (u v : List ℕ) (x : Account)
    → all_passed v (all_passed u x) ≡ all_passed (u ++ v) x
passed_twice u v x =
    ap (λ k. record {
      sums = record x.sums { passed = k };
      string = None;
      before = None;
      lines = x.lines + feeds u + feeds v;
    }) (more_passed x.sums.passed (length u) (length v)
    ∙ ap (λ n. x.sums.passed + n) (sym (length-append u v)))
    ∙ ap (λ k. record {
      sums = record x.sums { passed = x.sums.passed + length (u ++ v) };
      string = None;
      before = None;
      lines = k;
    }) (more_passed x.lines (feeds u) (feeds v)
    ∙ ap (λ n. x.lines + n) (sym (feeds_more u v)))

same_line : (r : Rule) (x : Account) (l : List ℕ) → LineRuns r x l l (all_passed l x) []
same_line r x l = (
  record { same = λ e. refl; other = λ n. absurd (n refl) },
  record { same = λ e. refl; other = λ n. absurd (n refl) },
)

same_run : (r : Rule) (x : Account) (l : List ℕ) (ls : List (List ℕ))
    → LinesRun r x (l ∷ ls) (l ∷ ls) (all_passed (l ++ joined_lines ls) x) []
same_run r x l [] =
    (all_passed l x, [], [], same_line r x l, (ap (λ v. all_passed v x) (append-nil l), refl), refl)
same_run r x l (k ∷ ls) =
    let z = all_passed l x in (
      z,
      [],
      [],
      same_line r x l,
      subst (λ y. LinesRun r z (k ∷ ls) (k ∷ ls) y [])
          (passed_twice l (k ++ joined_lines ls) x) (same_run r z k ls),
      refl,
    )

lines_same : (r : Rule) (x : Account) (u : List ℕ) (ls : List (List ℕ)) → joined_lines ls ≡ u
    → 0 < length u → LinesRun r x ls ls (all_passed u x) []
lines_same r x u [] e some = absurd (omega (arith, ap length (sym e), some))
lines_same r x u (l ∷ ls) e some =
    subst (λ v. LinesRun r x (l ∷ ls) (l ∷ ls) (all_passed v x) []) e (same_run r x l ls)

-- ---- a stream

pub as_one : (l : List ℕ) → IsLine l → lines l ≡ l ∷ []
as_one l (x, none, e) =
    ap lines e ∙ one_line x 0x0a none refl ∙ ap (λ y. y ∷ []) (sym e)

lines_then : (s l : List ℕ) → ends_line true s ≡ true → IsLine l
    → lines (s ++ l) ≡ lines s ++ l ∷ []
lines_then s l ends line = lines_append s l ends ∙ ap (λ y. lines s ++ y) (as_one l line)

more_same : (a b k m : List (List ℕ)) → length a ≡ length b → length k ≡ length m
    → length (a ++ k) ≡ length (b ++ m)
more_same a b k m e f = omega (arith, e, f, length-append a k, length-append b m)

pub run_line : (r : Rule) (s t l w : List ℕ) (x y : Account) (es fs : List Entry)
    → HasRun r s t x es → IsLine l → IsLine w → LineRuns r x l w y fs
    → Counts x (length l) y → HasRun r (s ++ l) (t ++ w) y (es ++ fs)
run_line r s t l w x y es fs h line text run sum = record {
  ends = ends_append true s l ∙ line_ends (ends_line true s) l line;
  text_ends = ends_append true t w ∙ line_ends (ends_line true t) w text;
  same = ap length (lines_then s l h.ends line)
      ∙ more_same (lines s) (lines t) (l ∷ []) (w ∷ []) h.same refl
      ∙ sym (ap length (lines_then t w h.text_ends text));
  sums = omega (arith, sum.0, h.sums, length-append s l);
  lines = omega (arith, sum.1, h.lines, length-append s l);
  run = subst (λ ks. LinesRun r begun ks (lines (t ++ w)) y (es ++ fs))
      (sym (lines_then s l h.ends line))
      (subst (λ ks. LinesRun r begun (lines s ++ l ∷ []) ks y (es ++ fs))
      (sym (lines_then t w h.text_ends text))
      (run_more r begun (lines s) (lines t) x es (l ∷ []) (w ∷ []) y fs h.same h.run
      (run_one r x y l w fs run)));
}

ends_then : (b : Bool) (v : List ℕ) → ends_line true v ≡ true → 0 < length v
    → ends_line b v ≡ true
ends_then b [] e n = absurd (omega (arith, n))
ends_then b (c ∷ v) e n = e

pub run_same : (r : Rule) (s t u : List ℕ) (x : Account) (es : List Entry)
    → HasRun r s t x es → ends_line true u ≡ true → 0 < length u
    → Counts x (length u) (all_passed u x)
    → HasRun r (s ++ u) (t ++ u) (all_passed u x) es
run_same r s t u x es h ends some sum = record {
  ends = ends_append true s u ∙ ends_then (ends_line true s) u ends some;
  text_ends = ends_append true t u ∙ ends_then (ends_line true t) u ends some;
  same = ap length (lines_append s u h.ends)
      ∙ more_same (lines s) (lines t) (lines u) (lines u) h.same refl
      ∙ sym (ap length (lines_append t u h.text_ends));
  sums = omega (arith, sum.0, h.sums, length-append s u);
  lines = omega (arith, sum.1, h.lines, length-append s u);
  run = subst (λ fs. LinesRun r begun (lines (s ++ u)) (lines (t ++ u)) (all_passed u x) fs)
      (append-nil es)
      (subst (λ ks. LinesRun r begun ks (lines (t ++ u)) (all_passed u x) (es ++ []))
      (sym (lines_append s u h.ends))
      (subst (λ ks. LinesRun r begun (lines s ++ lines u) ks (all_passed u x) (es ++ []))
      (sym (lines_append t u h.text_ends))
      (run_more r begun (lines s) (lines t) x es (lines u) (lines u) (all_passed u x) [] h.same
      h.run
      (lines_same r x u (lines u) (lines_joined u) some))));
}

-- ---- the last line, which no line feed ends

pub first_open : (w : List ℕ) → has_line_feed w ≡ false → first (lines w) ≡ w
first_open [] h = refl
first_open (b ∷ w) h = ap first (open_line b w h)

open_run : (r : Rule) (x y : Account) (l w : List ℕ) (fs : List Entry)
    → has_line_feed w ≡ false → LineRuns r x l w y fs → LinesRun r x (l ∷ []) (lines w) y fs
open_run r x y l w fs h run = (
  y,
  fs,
  [],
  subst (λ v. LineRuns r x l v y fs) (sym (first_open w h)) run,
  (refl, refl),
  sym (append-nil fs),
)

pub run_last : (r : Rule) (s t : List ℕ) (b : ℕ) (l w : List ℕ) (x y : Account)
    (es fs : List Entry) → HasRun r s t x es → has_line_feed (b ∷ l) ≡ false
    → has_line_feed w ≡ false → LineRuns r x (b ∷ l) w y fs
    → IsLineAccount r (s ++ b ∷ l) (t ++ w) y (es ++ fs)
run_last r s t b l w x y es fs h none text_open run =
    subst (λ ks. LinesRun r begun ks (lines (t ++ w)) y (es ++ fs))
    (sym (lines_append s (b ∷ l) h.ends ∙ ap (λ k. lines s ++ k) (open_line b l none)))
    (subst (λ ks. LinesRun r begun (lines s ++ (b ∷ l) ∷ []) ks y (es ++ fs))
    (sym (lines_append t w h.text_ends))
    (run_more r begun (lines s) (lines t) x es ((b ∷ l) ∷ []) (lines w) y fs h.same h.run
    (open_run r x y (b ∷ l) w fs text_open run)))

-- there is none
pub run_none : (r : Rule) (s t w : List ℕ) (x : Account) (es : List Entry) → HasRun r s t x es
    → IsLineAccount r (s ++ []) (t ++ w) x es
run_none r s t w x es h =
    subst (λ v. LinesRun r begun (lines v) (lines (t ++ w)) x es) (sym (append-nil s))
    (subst (λ ks. LinesRun r begun (lines s) ks x es) (sym (lines_append t w h.text_ends))
    (subst (λ ks. LinesRun r begun ks (lines t ++ lines w) x es) (append-nil (lines s))
    (subst (λ fs. LinesRun r begun (lines s ++ []) (lines t ++ lines w) x fs) (append-nil es)
    (run_more r begun (lines s) (lines t) x es [] (lines w) x [] h.same h.run (refl, refl)))))
