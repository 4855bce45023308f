-- Bytes, their lines, and the ends of these.
use Rattle.std.proofs.Common.{ℕ, ◌≡◌, ◌<◌, ◌+◌, ◌-◌, suc, length, take, drop, get_or, Bool, true, false, ◌||◌, ◌&&◌, if◌then◌else◌, List, [], ◌∷◌, ◌++◌, ◌⊎◌, inl, inr, arith, refl, ap, sym, ◌∙◌, append_assoc, append-nil}
use Rattle.std.proofs.lemmas.Bool.Decides.{nat_tests}
use Rattle.esc_frame.specs.Segments.{is_empty}
use Rattle.esc_frame.proofs.ByteRuns.CsiRuns.{run_joins}
use Rattle.esc_filter.specs.Lines.{is_line_feed, is_return, has_line_feed, IsLine, ends_line, ends_return, begin_with, body, content, ended_lines, held, last_line, lines}

-- ---- line feeds

pub feeds_append : (x y : List ℕ) → has_line_feed x ≡ false → has_line_feed y ≡ false
    → has_line_feed (x ++ y) ≡ false
feeds_append [] y h k = k
feeds_append (b ∷ x) y h k = by_head (is_line_feed b) h (λ g. feeds_append x y g k)
  where
    by_head : (t : Bool) → (t || has_line_feed x) ≡ false
        → (has_line_feed x ≡ false → has_line_feed (x ++ y) ≡ false)
        → (t || has_line_feed (x ++ y)) ≡ false
    by_head true g more = absurd cc
    by_head false g more = more g

-- the bytes after the last line feed
feeds_in : (t : Bool) (d r : List ℕ) → ends_line t d ≡ true → (t || has_line_feed (d ++ r)) ≡ true
feeds_in true d r h = refl
feeds_in false [] r h = absurd cc
feeds_in false (b ∷ d) r h = feeds_in (is_line_feed b) d r h

ends_any : (t : Bool) (d : List ℕ) → ends_line t d ≡ true → ends_line true d ≡ true
ends_any t [] h = refl
ends_any t (b ∷ d) h = h

pub last_open : (r : List ℕ) → has_line_feed r ≡ false → last_line r ≡ r
last_open [] h = refl
last_open (b ∷ r) h = rw h refl

pub last_is : (d r : List ℕ) → ends_line true d ≡ true → has_line_feed r ≡ false
    → last_line (d ++ r) ≡ r
last_is [] r h n = last_open r n
last_is (b ∷ d) r h n =
    rw (feeds_in (is_line_feed b) d r h) (last_is d r (ends_any (is_line_feed b) d h) n)

pub ends_append : (before : Bool) (x y : List ℕ)
    → ends_line before (x ++ y) ≡ ends_line (ends_line before x) y
ends_append before [] y = refl
ends_append before (b ∷ x) y = ends_append (is_line_feed b) x y

pub line_ends : (before : Bool) (l : List ℕ) → IsLine l → ends_line before l ≡ true
line_ends before l (x, none, e) = ap (ends_line before) e ∙ ends_append before x (0x0a ∷ [])

-- after n bytes from i on that are a line
pub line_ended : (s x : List ℕ) (i n : ℕ) → IsLine (take n (take (length x - i) (drop i x)))
    → ends_line true (s ++ take (i + n) x) ≡ true
line_ended s x i n line =
    let part = take n (take (length x - i) (drop i x)) in
    ap (λ y. ends_line true (s ++ y)) (sym (run_joins x i n))
    ∙ ap (ends_line true) (sym (append_assoc s (take i x) part))
    ∙ ends_append true (s ++ take i x) part
    ∙ line_ends (ends_line true (s ++ take i x)) part line

pub no_end : (x : List ℕ) → has_line_feed x ≡ false → ends_line false x ≡ false
no_end [] h = refl
no_end (b ∷ x) h = by_head (is_line_feed b) h (no_end x)
  where
    by_head : (t : Bool) → (t || has_line_feed x) ≡ false
        → (has_line_feed x ≡ false → ends_line false x ≡ false) → ends_line t x ≡ false
    by_head true g more = absurd cc
    by_head false g more = more g

pub line_feed_is : (b : ℕ) → is_line_feed b ≡ true → b ≡ 0x0a
line_feed_is b h = grind (arith, nat_tests)

-- the first part has none if the whole has none
feeds_first : (x y : List ℕ) → has_line_feed (x ++ y) ≡ false → has_line_feed x ≡ false
feeds_first [] y h = refl
feeds_first (b ∷ x) y h = by_head (is_line_feed b) h (feeds_first x y)
  where
    by_head : (t : Bool) → (t || has_line_feed (x ++ y)) ≡ false
        → (has_line_feed (x ++ y) ≡ false → has_line_feed x ≡ false)
        → (t || has_line_feed x) ≡ false
    by_head true g more = absurd cc
    by_head false g more = more g

pub ended_open : (r : List ℕ) → has_line_feed r ≡ false → ended_lines r ≡ []
ended_open [] h = refl
ended_open (b ∷ r) h = rw h refl

pub ended_is : (d r : List ℕ) → ends_line true d ≡ true → has_line_feed r ≡ false
    → ended_lines (d ++ r) ≡ d
ended_is [] r h n = ended_open r n
ended_is (b ∷ d) r h n =
    rw (feeds_in (is_line_feed b) d r h)
    (ap (λ z. b ∷ z) (ended_is d r (ends_any (is_line_feed b) d h) n))

-- ---- the end of a line

pub content_is : (x y : List ℕ) → has_line_feed x ≡ false → content (x ++ 0x0a ∷ y) ≡ x
content_is [] y h = refl
content_is (b ∷ x) y h = by_head (is_line_feed b) h (content_is x y)
  where
    by_head : (t : Bool) → (t || has_line_feed x) ≡ false
        → (has_line_feed x ≡ false → content (x ++ 0x0a ∷ y) ≡ x)
        → (if t then [] else b ∷ content (x ++ 0x0a ∷ y)) ≡ b ∷ x
    by_head true g more = absurd cc
    by_head false g more = ap (λ z. b ∷ z) (more g)

return_is : (b : ℕ) → is_return b ≡ true → b ≡ 0x0d
return_is b h = grind (arith, nat_tests)

-- the body, and the carriage return after it
pub body_held : (r : List ℕ) → r ≡ body r ++ held (ends_return false r)
body_held [] = refl
body_held (b ∷ []) = by_head (is_return b) refl
  where
    by_head : (t : Bool) → is_return b ≡ t → b ∷ [] ≡ (if t then [] else b ∷ []) ++ held t
    by_head true e = ap (λ c. c ∷ []) (return_is b e)
    by_head false e = refl
body_held (b ∷ c ∷ r) = ap (λ z. b ∷ z) (body_held (c ∷ r))

pub body_whole : (r : List ℕ) → ends_return false r ≡ false → body r ≡ r
body_whole r h =
    sym (append-nil (body r)) ∙ ap (λ t. body r ++ held t) (sym h) ∙ sym (body_held r)

pub body_feeds : (r : List ℕ) → has_line_feed r ≡ false → has_line_feed (body r) ≡ false
body_feeds r h =
    feeds_first (body r) (held (ends_return false r))
    (ap has_line_feed (sym (body_held r)) ∙ h)

some_last : (x : List ℕ) (b : ℕ) (y : List ℕ) → is_empty (x ++ b ∷ y) ≡ false
some_last [] b y = refl
some_last (a ∷ x) b y = refl

pub body_append : (x : List ℕ) (b : ℕ) (y : List ℕ) → body (x ++ b ∷ y) ≡ x ++ body (b ∷ y)
body_append [] b y = refl
body_append (a ∷ x) b y =
    ap (λ e. if e && is_return a then [] else a ∷ body (x ++ b ∷ y)) (some_last x b y)
    ∙ ap (λ z. a ∷ z) (body_append x b y)

pub body_after : (x y : List ℕ) → ends_return false y ≡ true → body (x ++ y) ≡ x ++ body y
body_after x [] h = absurd cc
body_after x (b ∷ y) h = body_append x b y

pub return_append : (before : Bool) (x y : List ℕ)
    → ends_return before (x ++ y) ≡ ends_return (ends_return before x) y
return_append before [] y = refl
return_append before (b ∷ x) y = return_append (is_return b) x y

-- more bytes after the rest of a line whose body was taken
pub body_more : (r b : List ℕ) → (c : List ℕ) × (body (r ++ b) ≡ body r ++ c)
body_more r [] = ([], ap body (append-nil r) ∙ sym (append-nil (body r)))
body_more r (a ∷ b) = let h = held (ends_return false r) in (
  h ++ body (a ∷ b),
  body_append r a b ∙ ap (λ z. z ++ body (a ∷ b)) (body_held r)
      ∙ append_assoc (body r) h (body (a ∷ b)),
)

-- whether one comes last, by the last byte
pub return_last : (before : Bool) (b : ℕ) (x : List ℕ)
    → ends_return before (b ∷ x) ≡ is_return (get_or (b ∷ x) (length (b ∷ x) - 1) 0)
return_last before b [] = refl
return_last before b (c ∷ x) =
    return_last (is_return b) c x
    ∙ ap (λ n. is_return (get_or (b ∷ c ∷ x) n 0)) (last_at (length x))
  where
    last_at : (n : ℕ) → suc (suc n - 1) ≡ suc (suc n) - 1
    last_at n = omega arith

pub last_return : (x : List ℕ) → 0 < length x
    → is_return (get_or x (length x - 1) 0) ≡ ends_return false x
last_return [] h = absurd (omega (arith, h))
last_return (b ∷ x) h = sym (return_last false b x)

-- the bytes before the last one
pub first_taken : (x : List ℕ) (b : ℕ) → take (length (x ++ b ∷ []) - 1) (x ++ b ∷ []) ≡ x
first_taken [] b = refl
first_taken (a ∷ x) b =
    ap (λ n. take n (a ∷ x ++ b ∷ [])) (last_at x) ∙ ap (λ z. a ∷ z) (first_taken x b)
  where
    last_at : (x : List ℕ) → length (a ∷ x ++ b ∷ []) - 1 ≡ suc (length (x ++ b ∷ []) - 1)
    last_at [] = refl
    last_at (c ∷ x) = omega arith

-- a line is its content and its line feed
pub whole_line : (l : List ℕ) → IsLine l → l ≡ content l ++ 0x0a ∷ []
whole_line l (x, none, e) =
    e ∙ ap (λ z. z ++ 0x0a ∷ []) (sym (ap content e ∙ content_is x [] none))

pub before_feed : (l : List ℕ) → IsLine l → take (length l - 1) l ≡ content l
before_feed l line =
    ap (λ z. take (length z - 1) z) (whole_line l line) ∙ first_taken (content l) 0x0a

-- the body of bytes with a carriage return at their end
pub body_taken : (x : List ℕ) → ends_return false x ≡ true → body x ≡ take (length x - 1) x
body_taken x h =
    sym (first_taken (body x) 0x0d)
    ∙ ap (λ z. take (length z - 1) z) (sym (body_held x ∙ ap (λ t. body x ++ held t) h))

-- ---- lines

-- some bytes have some line
first_of : (b : ℕ) (s : List ℕ) → (l : List ℕ) × (ls : List (List ℕ)) × (lines (b ∷ s) ≡ l ∷ ls)
first_of b s = by_head (is_line_feed b) (lines s)
  where
    by_head : (t : Bool) (ks : List (List ℕ))
        → (l : List ℕ) × (ls : List (List ℕ))
        × ((if t then (b ∷ []) ∷ ks else begin_with b ks) ≡ l ∷ ls)
    by_head true ks = (b ∷ [], ks, refl)
    by_head false [] = (b ∷ [], [], refl)
    by_head false (k ∷ ks) = (b ∷ k, ks, refl)

begin_more : (b c : ℕ) (d : List ℕ) (ks : List (List ℕ))
    → begin_with b (lines (c ∷ d) ++ ks) ≡ begin_with b (lines (c ∷ d)) ++ ks
begin_more b c d ks = let (l, ls, e) = first_of c d in
    ap (λ m. begin_with b (m ++ ks)) e ∙ ap (λ m. begin_with b m ++ ks) (sym e)

pub lines_append : (d x : List ℕ) → ends_line true d ≡ true
    → lines (d ++ x) ≡ lines d ++ lines x
lines_append [] x h = refl
lines_append (b ∷ d) x h = by_head (is_line_feed b) d h (lines_append d x)
  where
    by_head : (t : Bool) (d : List ℕ) → ends_line t d ≡ true
        → (ends_line true d ≡ true → lines (d ++ x) ≡ lines d ++ lines x)
        → (if t then (b ∷ []) ∷ lines (d ++ x) else begin_with b (lines (d ++ x)))
        ≡ (if t then (b ∷ []) ∷ lines d else begin_with b (lines d)) ++ lines x
    by_head true d g more = ap (λ ls. (b ∷ []) ∷ ls) (more g)
    by_head false [] g more = absurd cc
    by_head false (c ∷ d) g more = ap (begin_with b) (more g) ∙ begin_more b c d (lines x)

pub one_line : (x : List ℕ) (b : ℕ) → has_line_feed x ≡ false → is_line_feed b ≡ true
    → lines (x ++ b ∷ []) ≡ (x ++ b ∷ []) ∷ []
one_line [] b h e = rw e refl
one_line (a ∷ x) b h e = by_head (is_line_feed a) h (λ g. one_line x b g e)
  where
    by_head : (t : Bool) → (t || has_line_feed x) ≡ false
        → (has_line_feed x ≡ false → lines (x ++ b ∷ []) ≡ (x ++ b ∷ []) ∷ [])
        → (if t then (a ∷ []) ∷ lines (x ++ b ∷ []) else begin_with a (lines (x ++ b ∷ [])))
        ≡ (a ∷ x ++ b ∷ []) ∷ []
    by_head true g more = absurd cc
    by_head false g more = ap (begin_with a) (more g)

pub open_line : (b : ℕ) (x : List ℕ) → has_line_feed (b ∷ x) ≡ false → lines (b ∷ x) ≡ (b ∷ x) ∷ []
open_line b [] h = by_head (is_line_feed b) h
  where
    by_head : (t : Bool) → (t || false) ≡ false
        → (if t then (b ∷ []) ∷ [] else begin_with b []) ≡ (b ∷ []) ∷ []
    by_head true g = refl
    by_head false g = refl
open_line b (c ∷ x) h = by_head (is_line_feed b) h (open_line c x)
  where
    by_head : (t : Bool) → (t || has_line_feed (c ∷ x)) ≡ false
        → (has_line_feed (c ∷ x) ≡ false → lines (c ∷ x) ≡ (c ∷ x) ∷ [])
        → (if t then (b ∷ []) ∷ lines (c ∷ x) else begin_with b (lines (c ∷ x)))
        ≡ (b ∷ c ∷ x) ∷ []
    by_head true g more = absurd cc
    by_head false g more = ap (begin_with b) (more g)

-- lines that have ended, and the rest of one
pub split_open : (s : List ℕ) → (d : List ℕ) × (r : List ℕ) × (s ≡ d ++ r)
    × (ends_line true d ≡ true) × (has_line_feed r ≡ false)
split_open [] = ([], [], refl, refl, refl)
split_open (a ∷ s) = by_head (is_line_feed a) refl (split_open s)
  where
    by_head : (t : Bool) → is_line_feed a ≡ t
        → (d : List ℕ) × (r : List ℕ) × (s ≡ d ++ r) × (ends_line true d ≡ true)
        × (has_line_feed r ≡ false)
        → (d : List ℕ) × (r : List ℕ) × ((a ∷ s) ≡ d ++ r) × (ends_line true d ≡ true)
        × (has_line_feed r ≡ false)
    by_head true k ([], r, e, ends, unended) = (a ∷ [], r, ap (λ z. a ∷ z) e, k, unended)
    by_head false k ([], r, e, ends, unended) =
        ([], a ∷ r, ap (λ z. a ∷ z) e, refl, rw k unended)
    by_head t k (c ∷ d, r, e, ends, unended) =
        (a ∷ c ∷ d, r, ap (λ z. a ∷ z) e, ends, unended)

-- the first line feed, if there is one
pub split_at_feed : (b : List ℕ) → (has_line_feed b ≡ false)
    ⊎ ((x : List ℕ) × (y : List ℕ) × (has_line_feed x ≡ false) × (b ≡ x ++ 0x0a ∷ y))
split_at_feed [] = inl refl
split_at_feed (a ∷ b) = by_head (is_line_feed a) refl (split_at_feed b)
  where
    by_head : (t : Bool) → is_line_feed a ≡ t
        → (has_line_feed b ≡ false)
        ⊎ ((x : List ℕ) × (y : List ℕ) × (has_line_feed x ≡ false) × (b ≡ x ++ 0x0a ∷ y))
        → (has_line_feed (a ∷ b) ≡ false)
        ⊎ ((x : List ℕ) × (y : List ℕ) × (has_line_feed x ≡ false) × ((a ∷ b) ≡ x ++ 0x0a ∷ y))
    by_head true e r = inr ([], b, refl, ap (λ c. c ∷ b) (line_feed_is a e))
    by_head false e (inl n) = inl (rw e n)
    by_head false e (inr (x, y, n, k)) = inr (a ∷ x, y, rw e n, ap (λ z. a ∷ z) k)
