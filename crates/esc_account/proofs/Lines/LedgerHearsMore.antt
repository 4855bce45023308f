-- A ledger of lines, as it hears of more.
use Rattle.std.proofs.Common.{ℕ, zero, suc, ◌≡◌, ◌+◌, ◌-◌, ◌<◌, ◌≤◌, Bool, true, false, if◌then◌else◌, List, [], ◌∷◌, ◌++◌, length, take, drop, take-append-drop, Result, Ok, Err, OnOk, refl, sym, ap, ◌∙◌, subst, append_assoc, arith, length-append}
use Rattle.std.proofs.Math.ListN.{drop_of_length-le}
use Rattle.std.proofs.Math.Seq.{drop-length, drop-nil}
use Rattle.std.proofs.lemmas.List.{take_rest}
use Rattle.esc_filter.specs.Lines.{is_line_feed, has_line_feed, IsLine, begin_with, ends_line, lines}
use Rattle.esc_filter.proofs.ByLine.BytesOfLines.{feeds_append, line_ends, lines_append, open_line}
use Rattle.esc_account.specs.Accounts.{Counts, HasRoom, Rule, all_passed, begun, total}
use Rattle.esc_account.specs.Entries.{Entry}
use Rattle.esc_account.specs.Ledgers.{AreOpen, IsCounted, IsLineAccount, Keeps, Leaves, LineEnters, LineGives, LineRuns, LinesRun, PassesSame, Stands, first, others}
use Rattle.esc_account.specs.declared.account.Account.{Account}
use Rattle.esc_account.specs.declared.book.Book.{Ghosts as Writer}
use Rattle.esc_account.specs.declared.judge.Judge.{Ghosts as Ruler}
use Rattle.esc_account.specs.declared.line_ledger.LineLedger.{LineLedger}
use Rattle.esc_account.proofs.Lines.AccountOfLines.{as_one, first_open, run_line, run_more, run_same}

-- ---- more comes

pub stands_more : (r : Rule) (P : List Entry → Type 0) (x : Account) (line text s t b u : List ℕ)
    → Stands r P x line text s t → Stands r P x (line ++ b) (text ++ u) (s ++ b) (t ++ u)
stands_more r P x line text s t b u h = record {
  ended = h.ended;
  written = h.written;
  made = h.made;
  whole = ap (λ v. v ++ b) h.whole ∙ append_assoc h.ended line b;
  text_whole = ap (λ v. v ++ u) h.text_whole ∙ append_assoc h.written text u;
  run = h.run;
  given = h.given;
}

-- there is room for that
pub stands_room : (r : Rule) (P : List Entry → Type 0) (x : Account) (line text s t b : List ℕ)
    → Stands r P x line text s t → IsCounted (s ++ b) → HasRoom x (length line + length b)
stands_room r P x line text s t b h few =
    omega (
      arith,
      few,
      h.run.sums,
      h.run.lines,
      ap length h.whole,
      length-append s b,
      length-append h.ended line,
    )

-- ---- lines that are entered

pub stands_line : (r : Rule) (P Q : List Entry → Type 0) (x y : Account)
    (l w line text s t : List ℕ) → Stands r P x (l ++ line) (w ++ text) s t → IsLine l → IsLine w
    → LineEnters r x l w y → Counts x (length l) y
    → ((es : List Entry) → P es
    → (fs : List Entry) × LineGives r x l w fs × Q (es ++ fs))
    → Stands r Q y line text s t
stands_line r P Q x y l w line text s t h is_line is_text enters counts gives =
    let g = gives h.made h.given in record {
      ended = h.ended ++ l;
      written = h.written ++ w;
      made = h.made ++ g.0;
      whole = h.whole ∙ sym (append_assoc h.ended l line);
      text_whole = h.text_whole ∙ sym (append_assoc h.written w text);
      run = run_line r h.ended h.written l w x y h.made g.0 h.run is_line is_text (enters, g.1)
          counts;
      given = g.2;
    }

-- the same by a call that may fail
pub line_ended : {T E : Type 0} (result : Result T E) (r : Rule) (P Q : List Entry → Type 0)
    (x y : Account) (l w line text s t : List ℕ) → Stands r P x (l ++ line) (w ++ text) s t
    → IsLine l → IsLine w → OnOk result (LineEnters r x l w y) → OnOk result (Counts x (length l) y)
    → ((es : List Entry) → P es
    → OnOk result ((fs : List Entry) × LineGives r x l w fs × Q (es ++ fs)))
    → OnOk result (Stands r Q y line text s t)
line_ended (Ok v) r P Q x y l w line text s t h is_line is_text enters counts gives =
    stands_line r P Q x y l w line text s t h is_line is_text enters counts gives
line_ended (Err e) r P Q x y l w line text s t h is_line is_text enters counts gives = tt

pub stands_same : (r : Rule) (P : List Entry → Type 0) (x : Account) (u line text s t : List ℕ)
    → Stands r P x (u ++ line) (u ++ text) s t → ends_line true u ≡ true → 0 < length u
    → Counts x (length u) (all_passed u x) → Stands r P (all_passed u x) line text s t
stands_same r P x u line text s t h ends some counts = record {
  ended = h.ended ++ u;
  written = h.written ++ u;
  made = h.made;
  whole = h.whole ∙ sym (append_assoc h.ended u line);
  text_whole = h.text_whole ∙ sym (append_assoc h.written u text);
  run = run_same r h.ended h.written u x h.made h.run ends some counts;
  given = h.given;
}

take_length : (x : List ℕ) (n : ℕ) → n ≤ length x → length (take n x) ≡ n
take_length x zero few = refl
take_length [] (suc n) few = absurd (omega (arith, few))
take_length (b ∷ x) (suc n) few = ap suc (take_length x n (omega (arith, few)))

-- where both lie before
pub stands_at : (r : Rule) (P : List Entry → Type 0) (x : Account) (line text s t : List ℕ)
    (n m : ℕ) → Stands r P x line text s t
    → Stands r P x (take n line ++ drop n line) (take m text ++ drop m text) s t
stands_at r P x line text s t n m h =
    subst (λ v. Stands r P x v (take m text ++ drop m text) s t) (sym (take-append-drop n line))
    (subst (λ v. Stands r P x line v s t) (sym (take-append-drop m text)) h)

pub same_stand : (r : Rule) (P : List Entry → Type 0) (x y : Account) (line text s t : List ℕ)
    (n : ℕ) → n ≤ length line → PassesSame x line text n y → Counts x n y
    → Stands r P x line text s t → Stands r P y (drop n line) (drop n text) s t
same_stand r P x y line text s t zero few (e, ends, none, some) counts h =
    subst (λ z. Stands r P z line text s t) (sym (none refl)) h
same_stand r P x y line text s t (suc n) few (e, ends, none, some) counts h =
    let u = take (suc n) line in
    let k : length u ≡ suc n = take_length line (suc n) few in
    let is : y ≡ all_passed u x = some (omega arith) in
    subst (λ z. Stands r P z (drop (suc n) line) (drop (suc n) text) s t) (sym is)
    (stands_same r P x u (drop (suc n) line) (drop (suc n) text) s t
    (subst (λ v. Stands r P x (u ++ drop (suc n) line) (v ++ drop (suc n) text) s t) (sym e)
    (stands_at r P x line text s t (suc n) (suc n) h)) ends (omega (arith, k))
    (subst (λ m. Counts x m (all_passed u x)) (sym k)
    (subst (Counts x (suc n)) is counts)))

-- ---- from a place on

back : (i n : ℕ) → i + n - i ≡ n
back i n = omega arith

from : (x : List ℕ) (i n : ℕ) → drop n (drop i x) ≡ drop (i + n) x
from x zero n = ap (λ k. drop k x) (start n)
  where
    start : (n : ℕ) → n ≡ 0 + n
    start n = omega arith
from [] (suc i) n = drop-nil n ∙ sym (drop-nil (suc i + n))
from (b ∷ x) (suc i) n = from x i n ∙ ap (λ k. drop k (b ∷ x)) (next i n)
  where
    next : (i n : ℕ) → suc (i + n) ≡ suc i + n
    next i n = omega arith

-- A line that lies there, of which what lies there was written, and then the same lines.
pub lines_in : (r : Rule) (P Q : List Entry → Type 0) (x y z : Account)
    (line text s t : List ℕ) (at to n m k : ℕ)
    → Stands r P x (drop at line) (drop to text) s t
    → IsLine (take n (take (length line - at) (drop at line)))
    → IsLine (take m (take (length text - to) (drop to text)))
    → LineEnters r x (take (at + n - at) (drop at line)) (take (to + m - to) (drop to text)) y
    → Counts x (length (take (at + n - at) (drop at line))) y
    → ((es : List Entry) → P es → (fs : List Entry)
    × LineGives r x (take (at + n - at) (drop at line)) (take (to + m - to) (drop to text)) fs
    × Q (es ++ fs))
    → PassesSame y (take (length line - (at + n)) (drop (at + n) line))
    (take (length text - (to + m)) (drop (to + m) text)) k z
    → k ≤ length (take (length line - (at + n)) (drop (at + n) line)) → Counts y k z
    → Stands r Q z (drop (at + n + k) line) (drop (to + m + k) text) s t
lines_in r P Q x y z line text s t at to n m k h is_line is_text enters counts gives same few more =
    let d = drop at line in
    let e = drop to text in
    let one : Stands r Q y (drop n d) (drop m e) s t =
    stands_line r P Q x y (take n d) (take m e) (drop n d) (drop m e) s t
    (stands_at r P x d e s t n m h)
    (subst (λ v. IsLine (take n v)) (take_rest line at) is_line)
    (subst (λ v. IsLine (take m v)) (take_rest text to) is_text)
    (subst (λ i. LineEnters r x (take i d) (take m e) y) (back at n)
    (subst (λ i. LineEnters r x (take (at + n - at) d) (take i e) y) (back to m) enters))
    (subst (λ i. Counts x (length (take i d)) y) (back at n) counts)
    (subst (λ i. (es : List Entry) → P es → (fs : List Entry)
    × LineGives r x (take i d) (take m e) fs × Q (es ++ fs)) (back at n)
    (subst (λ i. (es : List Entry) → P es → (fs : List Entry)
    × LineGives r x (take (at + n - at) d) (take i e) fs × Q (es ++ fs)) (back to m) gives)) in
    let there : Stands r Q y (drop (at + n) line) (drop (to + m) text) s t =
    subst (λ v. Stands r Q y v (drop (to + m) text) s t) (from line at n)
    (subst (λ v. Stands r Q y (drop n d) v s t) (from text to m) one) in
    let passes : PassesSame y (drop (at + n) line) (drop (to + m) text) k z =
    subst (λ v. PassesSame y v (drop (to + m) text) k z) (take_rest line (at + n))
    (subst (λ v. PassesSame y (take (length line - (at + n)) (drop (at + n) line)) v k z)
    (take_rest text (to + m)) same) in
    subst (λ v. Stands r Q z v (drop (to + m + k) text) s t) (from line (at + n) k)
    (subst (λ v. Stands r Q z (drop k (drop (at + n) line)) v s t) (from text (to + m) k)
    (same_stand r Q y z (drop (at + n) line) (drop (to + m) text) s t k
    (subst (λ v. k ≤ length v) (take_rest line (at + n)) few) passes more there))

-- ---- the kept text

pub open_more : (line text b u : List ℕ) → AreOpen line text → AreOpen b u
    → AreOpen (line ++ b) (text ++ u)
open_more line text b u (h, k) (f, g) = (feeds_append line b h f, feeds_append text u k g)

pub line_more : (x l : List ℕ) → has_line_feed x ≡ false → IsLine l → IsLine (x ++ l)
line_more x l none (y, h, e) = (
  x ++ y,
  feeds_append x y none h,
  ap (λ v. x ++ v) e ∙ sym (append_assoc x y (0x0a ∷ [])),
)

-- ---- all that is left

-- the line that comes first
pub first_ended : (s : List ℕ) (n : ℕ) → IsLine (take n s)
    → (first (lines s) ≡ take n s) × (others (lines s) ≡ lines (drop n s))
first_ended s n line =
    let e : lines s ≡ take n s ∷ lines (drop n s) =
    ap lines (sym (take-append-drop n s))
    ∙ lines_append (take n s) (drop n s) (line_ends true (take n s) line)
    ∙ ap (λ ls. ls ++ lines (drop n s)) (as_one (take n s) line) in (ap first e, ap others e)

take_whole : (s : List ℕ) → take (length s) s ≡ s
take_whole [] = refl
take_whole (b ∷ s) = ap (λ v. b ∷ v) (take_whole s)

no_others : (s : List ℕ) → has_line_feed s ≡ false → others (lines s) ≡ []
no_others [] h = refl
no_others (b ∷ s) h = ap others (open_line b s h)

pub first_whole : (s : List ℕ) → has_line_feed s ≡ false
    → (first (lines s) ≡ take (length s) s) × (others (lines s) ≡ lines (drop (length s) s))
first_whole s h = (
  first_open s h ∙ sym (take_whole s),
  no_others s h ∙ sym (ap lines (drop-length s)),
)

some_lines : (b : ℕ) (s : List ℕ)
    → (l : List ℕ) × (ls : List (List ℕ)) × (lines (b ∷ s) ≡ l ∷ ls)
some_lines b s = by (is_line_feed b) (lines s)
  where
    by : (t : Bool) (ks : List (List ℕ))
        → (l : List ℕ) × (ls : List (List ℕ))
        × ((if t then (b ∷ []) ∷ ks else begin_with b ks) ≡ l ∷ ls)
    by true ks = (b ∷ [], ks, refl)
    by false [] = (b ∷ [], [], refl)
    by false (k ∷ ks) = (b ∷ k, ks, refl)

lines_first : (s : List ℕ) → 0 < length s → lines s ≡ first (lines s) ∷ others (lines s)
lines_first [] some = absurd (omega (arith, some))
lines_first (b ∷ s) some =
    let (l, ls, e) = some_lines b s in
    e ∙ sym (ap (λ ks. first ks ∷ others ks) e)

drop_length : (x : List ℕ) (n : ℕ) → n + length (drop n x) ≡ length x + (n - length x)
drop_length [] zero = omega arith
drop_length [] (suc n) = omega arith
drop_length (b ∷ x) zero = omega arith
drop_length (b ∷ x) (suc n) = omega (arith, drop_length x n)

-- one more of them
pub rest_more : (r : Rule) (x z y : Account) (s t : List ℕ) (n m : ℕ) (fs gs : List Entry)
    → 0 < length s → (first (lines s) ≡ take n s) → (others (lines s) ≡ lines (drop n s))
    → (first (lines t) ≡ take m t) → (others (lines t) ≡ lines (drop m t))
    → LineRuns r x (take n s) (take m t) z fs
    → LinesRun r z (lines (drop n s)) (lines (drop m t)) y gs
    → LinesRun r x (lines s) (lines t) y (fs ++ gs)
rest_more r x z y s t n m fs gs some f o g p run more =
    subst (λ ks. LinesRun r x ks (lines t) y (fs ++ gs)) (sym (lines_first s some)) (
      z,
      fs,
      gs,
      subst (λ l. LineRuns r x l (first (lines t)) z fs) (sym f)
          (subst (λ l. LineRuns r x (take n s) l z fs) (sym g) run),
      subst (λ ls. LinesRun r z ls (others (lines t)) y gs) (sym o)
          (subst (λ ls. LinesRun r z (lines (drop n s)) ls y gs) (sym p) more),
      refl,
    )

-- where it lies there
pub rest_in : (r : Rule) (x z y : Account) (line text : List ℕ) (at to n m : ℕ)
    (fs gs : List Entry) → at < length line
    → first (lines (take (length line - at) (drop at line)))
    ≡ take n (take (length line - at) (drop at line))
    → others (lines (take (length line - at) (drop at line)))
    ≡ lines (drop n (take (length line - at) (drop at line)))
    → first (lines (take (length text - to) (drop to text)))
    ≡ take m (take (length text - to) (drop to text))
    → others (lines (take (length text - to) (drop to text)))
    ≡ lines (drop m (take (length text - to) (drop to text)))
    → LineEnters r x (take (at + n - at) (drop at line)) (take (to + m - to) (drop to text)) z
    → LineGives r x (take (at + n - at) (drop at line)) (take (to + m - to) (drop to text)) fs
    → LinesRun r z (lines (drop (at + n) line)) (lines (drop (to + m) text)) y gs
    → LinesRun r x (lines (drop at line)) (lines (drop to text)) y (fs ++ gs)
rest_in r x z y line text at to n m fs gs some f o g p enters gives more =
    let d = drop at line in
    let e = drop to text in
    let i = take_rest line at in
    let j = take_rest text to in
    rest_more r x z y d e n m fs gs (omega (arith, some, drop_length line at))
    (subst (λ v. first (lines v) ≡ take n v) i f)
    (subst (λ v. others (lines v) ≡ lines (drop n v)) i o)
    (subst (λ v. first (lines v) ≡ take m v) j g)
    (subst (λ v. others (lines v) ≡ lines (drop m v)) j p)
    (subst (λ i. LineRuns r x (take i d) (take m e) z fs) (back at n)
    (subst (λ i. LineRuns r x (take (at + n - at) d) (take i e) z fs) (back to m) (enters, gives)))
    (subst (λ v. LinesRun r z (lines v) (lines (drop m e)) y gs) (sym (from line at n))
    (subst (λ v. LinesRun r z (lines (drop (at + n) line)) (lines v) y gs) (sym (from text to m))
    more))

pub rest_none : (r : Rule) (x : Account) (line : List ℕ) (at : ℕ) (ts : List (List ℕ))
    → length line ≤ at → LinesRun r x (lines (drop at line)) ts x []
rest_none r x line at ts h =
    subst (λ v. LinesRun r x (lines v) ts x []) (sym (drop_of_length-le line h)) (refl, refl)

-- where the rest of the lines, with u more of the text, make y, the account of the stream is y
pub stands_end : (r : Rule) (P : List Entry → Type 0) (x y : Account) (line text s t u : List ℕ)
    (h : Stands r P x line text s t) (fs : List Entry)
    → LinesRun r x (lines line) (lines (text ++ u)) y fs
    → IsLineAccount r s (t ++ u) y (h.made ++ fs)
stands_end r P x y line text s t u h fs run =
    subst (λ ks. LinesRun r begun ks (lines (t ++ u)) y (h.made ++ fs))
    (sym (ap lines h.whole ∙ lines_append h.ended line h.run.ends))
    (subst (λ ks. LinesRun r begun (lines h.ended ++ lines line) ks y (h.made ++ fs))
    (sym (ap (λ v. lines (v ++ u)) h.text_whole ∙ ap lines (append_assoc h.written text u)
    ∙ lines_append h.written (text ++ u) h.run.text_ends))
    (run_more r begun (lines h.ended) (lines h.written) x h.made (lines line) (lines (text ++ u)) y
    fs h.run.same h.run.run run))

-- the same by a call that may fail
pub end_told : {T E : Type 0} (result : Result T E) (r : Rule) (P Q : List Entry → Type 0)
    (x y : Account) (line text s t u : List ℕ) (h : Stands r P x line text s t)
    → OnOk result ((fs : List Entry) × LinesRun r x (lines line) (lines (text ++ u)) y fs
    × Q (h.made ++ fs)) → OnOk result (Counts x (length line) y)
    → OnOk result ((total y.sums ≡ length s)
    × ((es : List Entry) × IsLineAccount r s (t ++ u) y es × Q es))
end_told (Ok v) r P Q x y line text s t u h (fs, run, given) counts = (
  omega (arith, counts.0, h.run.sums, ap length h.whole, length-append h.ended line),
  (h.made ++ fs, stands_end r P x y line text s t u h fs run, given),
)
end_told (Err e) r P Q x y line text s t u h run counts = tt

-- ---- a ledger that has taken more

module _ {J B A : Type 0} (V : Ruler J A) (W : Writer B A) (k q : LineLedger J B A)
    (s t b u : List ℕ) (line : q.line.items ≡ k.line.items ++ b)
    (text : q.text.items ≡ k.text.items ++ u) where
  pub leaves_more : q.account ≡ k.account → q.book ≡ k.book → q.judge ≡ k.judge
      → Keeps V W k s t → Leaves V W q q.line.items q.text.items (s ++ b) (t ++ u)
  leaves_more x o j h =
      subst (λ i. Stands (V.rule i) (W.was_given q.book) q.account q.line.items q.text.items
      (s ++ b) (t ++ u)) (sym j)
      (subst (λ i. Stands (V.rule k.judge) (W.was_given i) q.account q.line.items q.text.items
      (s ++ b) (t ++ u)) (sym o)
      (subst (λ i. Stands (V.rule k.judge) (W.was_given k.book) i q.line.items q.text.items
      (s ++ b) (t ++ u)) (sym x)
      (subst (λ i. Stands (V.rule k.judge) (W.was_given k.book) k.account i q.text.items
      (s ++ b) (t ++ u)) (sym line)
      (subst (λ i. Stands (V.rule k.judge) (W.was_given k.book) k.account (k.line.items ++ b) i
      (s ++ b) (t ++ u)) (sym text)
      (stands_more (V.rule k.judge) (W.was_given k.book) k.account k.line.items k.text.items s t b
      u h.0)))))

  -- it has no line feed if neither had one
  pub opens_more : (k.is_open ≡ true → AreOpen k.line.items k.text.items)
      → (q.is_open ≡ true → (k.is_open ≡ true) × AreOpen b u)
      → q.is_open ≡ true → AreOpen q.line.items q.text.items
  opens_more was is e =
      let f = is e in
      subst (λ l. AreOpen l q.text.items) (sym line)
      (subst (AreOpen (k.line.items ++ b)) (sym text)
      (open_more k.line.items k.text.items b u (was f.0) f.1))
