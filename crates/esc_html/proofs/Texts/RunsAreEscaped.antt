-- A text that is written run by run is the one that is written character by character.
use Rattle.std.proofs.Common.{ℕ, zero, suc, ◌≡◌, ◌≤◌, ◌<◌, ◌+◌, true, if◌then◌else◌, List, [], ◌∷◌, ◌++◌, length, take, drop, get_or, Result, Ok, Err, is_ok, OnOk, Some, refl, ap, sym, ◌∙◌, subst, append_assoc, arith}
use Rattle.std.specs.List.{flat_map, list_all}
use Rattle.std.specs.Str.{IsUtf8}
use Rattle.std.specs.String.Boundary.{IsSplitPoint}
use Rattle.std.proofs.Math.Seq.{take-append_seam}
use Rattle.std.proofs.lemmas.Bool.{false_from_ne_true, leb-true, and_parts}
use Rattle.std.proofs.lemmas.Bool.Decides.{nat_tests}
use Rattle.std.proofs.lemmas.List.{append-nil, length-append}
use Rattle.std.proofs.lemmas.Str.{IsUtf8-append, IsUtf8-nil, IsUtf8-from_ascii, IsCharBoundary-from_drop}
use Rattle.memchr.specs.Find.{is_byte3, IsFirstByte}
use Rattle.esc_style.specs.Colors.{is_small}
use Rattle.esc_html.specs.Growing.{Grows}
use Rattle.esc_html.specs.PageParts.{escape, reference_text}

-- ---- runs

pub escape_none : (mark : ℕ) (x : List ℕ)
    → ((k : ℕ) → 0 ≤ k → k < length x → is_byte3 0x26 0x3c mark (get_or x k 0) ≡ true → ⊥)
    → flat_map (escape mark) x ≡ x
escape_none mark [] h = refl
escape_none mark (b ∷ x) h =
    rw (false_from_ne_true (is_byte3 0x26 0x3c mark b) (h 0 (omega arith) (omega arith)))
    (ap (λ y. b ∷ y) (escape_none mark x (λ k l m. h (suc k) (omega arith) (omega (arith, m)))))

escape_at : (mark : ℕ) (x : List ℕ) (n : ℕ) → n < length x
    → ((k : ℕ) → 0 ≤ k → k < n → is_byte3 0x26 0x3c mark (get_or x k 0) ≡ true → ⊥)
    → is_byte3 0x26 0x3c mark (get_or x n 0) ≡ true
    → flat_map (escape mark) x
    ≡ take n x ++ (reference_text (get_or x n 0) ++ flat_map (escape mark) (drop (n + 1) x))
escape_at mark [] n l h e = absurd (omega (arith, l))
escape_at mark (b ∷ x) zero l h e = rw e refl
escape_at mark (b ∷ x) (suc n) l h e =
    rw (false_from_ne_true (is_byte3 0x26 0x3c mark b) (h 0 (omega arith) (omega arith)))
    (ap (λ y. b ∷ y) (escape_at mark x n (omega (arith, l))
    (λ k i m. h (suc k) (omega arith) (omega (arith, m))) e)
    ∙ ap (λ k. b ∷ (take n x ++ (reference_text (get_or x n 0)
    ++ flat_map (escape mark) (drop k (b ∷ x))))) (sym (more n)))
  where
    more : (n : ℕ) → suc n + 1 ≡ suc (n + 1)
    more n = omega arith

pub next_mark : (mark : ℕ) (rest : List ℕ) (at : ℕ)
    → IsFirstByte (is_byte3 0x26 0x3c mark) rest (Some at)
    → flat_map (escape mark) rest ≡ take at rest
    ++ (reference_text (get_or rest at 0) ++ flat_map (escape mark) (drop (at + 1) rest))
next_mark mark rest at (n, p) = escape_at mark rest at n.high n.before p

pub mark_small : (mark b : ℕ) → mark < 128 → is_byte3 0x26 0x3c mark b ≡ true → b < 128
mark_small mark b small h = grind (arith, nat_tests)

-- one run, and the reference after it
pub next_run : (old one two before text run name rest : List ℕ) (f : ℕ → List ℕ) (all : List ℕ)
    → old ++ flat_map f all ≡ before ++ text → one ≡ old ++ run → two ≡ one ++ name
    → flat_map f all ≡ run ++ (name ++ flat_map f rest)
    → two ++ flat_map f rest ≡ before ++ text
next_run old one two before text run name rest f all h i j k =
    rw (j, i) (append_assoc (old ++ run) name (flat_map f rest)
    ∙ append_assoc old run (name ++ flat_map f rest) ∙ ap (λ y. old ++ y) (sym k) ∙ h)

-- ---- growing

pub grows_not : (old : List ℕ) → Grows old old
grows_not old = ([], IsUtf8-nil, sym (append-nil old))

pub grows_by : (before old new y : List ℕ) → Grows before old → IsUtf8 y → new ≡ old ++ y
    → Grows before new
grows_by before old new y (x, u, e) v i = (
  x ++ y,
  IsUtf8-append x y u v,
  i ∙ ap (λ z. z ++ y) e ∙ append_assoc before x y,
)

pub grows_on : {X E : Type 0} (r : Result X E) (before old new y : List ℕ) → Grows before old
    → IsUtf8 y → new ≡ (if is_ok r then old ++ y else old) → Grows before new
grows_on (Ok x) before old new y h v i = grows_by before old new y h v i
grows_on (Err x) before old new y (z, u, e) v i = (z, u, i ∙ e)

pub grown_ok : {X E : Type 0} (r : Result X E) (old new y want : List ℕ)
    → new ≡ (if is_ok r then old ++ y else old) → old ++ y ≡ want → OnOk r (new ≡ want)
grown_ok (Ok x) old new y want i k = i ∙ k
grown_ok (Err x) old new y want i k = tt

-- the earlier text is still there, and can be cut off again
pub cut_back : (before after : List ℕ) → Grows before after
    → IsSplitPoint after (length before) × (take (length before) after ≡ before)
cut_back before after (x, u, e) =
    let P : List ℕ → Type 0 = λ y. IsSplitPoint y (length before)
    × (take (length before) y ≡ before) in
    subst P (sym e) (
      (
        rw (length-append before x) (omega arith),
        λ some inside high. (IsCharBoundary-from_drop (before ++ x) (length before)
            (rw (length-append before x) (omega arith))
            (rw (drop_seam before x) u)).1 inside high,
      ),
      take-append_seam before x,
    )
  where
    drop_seam : (b y : List ℕ) → drop (length b) (b ++ y) ≡ y
    drop_seam [] y = refl
    drop_seam (c ∷ b) y = drop_seam b y

pub nothing_left : {X : Type 0} (l : List X) → length l ≡ 0 → l ≡ []
nothing_left [] h = refl
nothing_left (x ∷ xs) h = absurd (omega arith)

-- ---- literals and tags

small_at : (t : List ℕ) → list_all is_small t ≡ true → (i : ℕ) → get_or t i 0 < 128
small_at [] h i = omega arith
small_at (c ∷ t) h zero =
    let low = leb-true c 127 (and_parts (is_small c) (list_all is_small t) h).0 in omega arith
small_at (c ∷ t) h (suc i) = small_at t (and_parts (is_small c) (list_all is_small t) h).1 i

pub ascii_utf8 : (t : List ℕ) → list_all is_small t ≡ true → IsUtf8 t
ascii_utf8 t h = IsUtf8-from_ascii t (small_at t h)

pub grows_same : (old new : List ℕ) → new ≡ old → Grows old new
grows_same old new e = ([], IsUtf8-nil, e ∙ sym (append-nil old))

pub grows_moved : (before old new : List ℕ) → Grows before old → new ≡ old → Grows before new
grows_moved before old new (x, u, e) i = (x, u, i ∙ e)

pub grows_then : (a b c : List ℕ) → Grows a b → Grows b c → Grows a c
grows_then a b c h (y, v, e) = grows_by a b c y h v e

pub grows_literal : (old new t : List ℕ) → list_all is_small t ≡ true → new ≡ old ++ t
    → Grows old new
grows_literal old new t h e = (t, ascii_utf8 t h, e)

pub three_joined : (old one two l e t : List ℕ) → one ≡ old ++ l → two ≡ one ++ e
    → two ++ t ≡ old ++ (l ++ (e ++ t))
three_joined old one two l e t i j =
    rw (j, i) (append_assoc (old ++ l) e t ∙ append_assoc old l (e ++ t))
