-- Visible text of bytes that come one after another.
use Rattle.std.proofs.Common.{ℕ, ◌≡◌, ◌+◌, ◌<◌, ◌≤◌, Bool, true, false, nat_le, List, [], ◌∷◌, ◌++◌, length, length-append, arith, refl, ap, sym, ◌∙◌, subst, append_assoc}
use Rattle.std.proofs.lemmas.Bool.Decides.{nat_tests}
use Rattle.std.proofs.lemmas.List.{append-nil}
use Rattle.esc_frame.specs.Machine.Prefixes.{prefix_of}
use Rattle.esc_frame.specs.Sequences.{outcome}
use Rattle.caret_notation.specs.Grown.{Grows, Keeps, KeepsBy}
use Rattle.caret_notation.specs.Visible.{begun_after, closing, next_begun, next_text, opening, rest_text, settled_text, shown_text, stray_text, visible_text}
use Rattle.caret_notation.specs.declared.marking.Marking.{Marking}
use Rattle.caret_notation.specs.declared.kept.Kept.{Kept}

-- ---- bytes, and then more

pub settled_append : (f x y : List ℕ)
    → settled_text f (x ++ y) ≡ settled_text f x ++ settled_text (begun_after f x) y
settled_append f [] y = refl
settled_append f (b ∷ x) y =
    let o = outcome f b in
    ap (λ t. next_text f b o ++ t) (settled_append (next_begun f b o) x y)
    ∙ sym (append_assoc (next_text f b o) (settled_text (next_begun f b o) x)
    (settled_text (begun_after (next_begun f b o) x) y))

pub begun_append : (f x y : List ℕ) → begun_after f (x ++ y) ≡ begun_after (begun_after f x) y
begun_append f [] y = refl
begun_append f (b ∷ x) y = begun_append (next_begun f b (outcome f b)) x y

-- ---- lengths

pub longer_over : (limit b : ℕ) (r : List ℕ) → nat_le (length r) limit ≡ false
    → nat_le (length (r ++ b ∷ [])) limit ≡ false
longer_over limit b r h = by_length (length r) (length (r ++ b ∷ [])) h (length-append r (b ∷ []))
  where
    by_length : (n m : ℕ) → nat_le n limit ≡ false → m ≡ n + 1 → nat_le m limit ≡ false
    by_length n m h e = grind (arith, nat_tests)

pub over_more : (limit : ℕ) (r x : List ℕ) → nat_le (length r) limit ≡ false
    → nat_le (length (r ++ x)) limit ≡ false
over_more limit r x h = by_length (length r) (length (r ++ x)) h (length-append r x)
  where
    by_length : (n m : ℕ) → nat_le n limit ≡ false → m ≡ n + length x → nat_le m limit ≡ false
    by_length n m h e = grind (arith, nat_tests)

long_over : (limit : ℕ) (r x : List ℕ) → limit < length r + length x
    → nat_le (length (r ++ x)) limit ≡ false
long_over limit r x h = by_length (length (r ++ x)) (omega (arith, h, length-append r x))
  where
    by_length : (n : ℕ) → limit < n → nat_le n limit ≡ false
    by_length n l = grind (arith, nat_tests)

short_within : (limit : ℕ) (r x : List ℕ) → length r + length x ≤ limit
    → nat_le (length (r ++ x)) limit ≡ true
short_within limit r x h = by_length (length (r ++ x)) (omega (arith, h, length-append r x))
  where
    by_length : (n : ℕ) → n ≤ limit → nat_le n limit ≡ true
    by_length n l = grind (arith, nat_tests)

-- ---- the text that is written for a rest

pub rest_whole : (m : Marking) (limit : ℕ) (r : List ℕ) → nat_le (length r) limit ≡ true
    → rest_text m limit r ≡ []
rest_whole m limit r h = rw h refl

pub rest_over : (m : Marking) (limit : ℕ) (r : List ℕ) → nat_le (length r) limit ≡ false
    → rest_text m limit r ≡ opening m ++ settled_text [] r
rest_over m limit r h = rw h refl

-- a rest that is longer than the limit has some bytes
pub shown_over : (m : Marking) (limit : ℕ) (r : List ℕ) → nat_le (length r) limit ≡ false
    → shown_text m r ≡ opening m ++ (visible_text r ++ closing m)
shown_over m limit [] h = absurd (some limit h)
  where
    some : (limit : ℕ) → nat_le 0 limit ≡ false → ⊥
    some limit h = grind (arith, nat_tests)
shown_over m limit (b ∷ r) h = refl

module _ {A : Type 0} (m : Marking) (limit : ℕ) (r : List ℕ) (k : Kept A) (t0 t1 : List ℕ) where
  pub shows_over : (tm : List ℕ) → KeepsBy limit r k true
      → tm ≡ t0 ++ stray_text (prefix_of k.begun) → t1 ≡ tm ++ closing m
      → Grows t0 t1 (rest_text m limit r) (shown_text m r)
  shows_over tm h e f =
      let stray = stray_text (begun_after [] r) in
      let o = opening m in (
        stray ++ closing m,
        shown_over m limit r h.0
            ∙ ap (λ x. o ++ x) (append_assoc (settled_text [] r) stray (closing m))
            ∙ sym (append_assoc o (settled_text [] r) (stray ++ closing m))
            ∙ ap (λ x. x ++ (stray ++ closing m)) (sym (rest_over m limit r h.0)),
        f ∙ ap (λ x. x ++ closing m) (e ∙ ap (λ f. t0 ++ stray_text f) h.1)
            ∙ append_assoc t0 stray (closing m),
      )

  pub shows_whole : KeepsBy limit r k false → t1 ≡ t0 ++ shown_text m k.span.items
      → Grows t0 t1 (rest_text m limit r) (shown_text m r)
  shows_whole h e = (
    shown_text m r,
    ap (λ x. x ++ shown_text m r) (sym (rest_whole m limit r h.0)),
    e ∙ ap (λ p. t0 ++ shown_text m p) h.1,
  )

  whole_by : (b : Bool) → KeepsBy limit r k b → nat_le (length r) limit ≡ true
      → k.span.items ≡ r
  whole_by false h e = h.1
  whole_by true h e = absurd cc

  pub writes_whole : Keeps limit r k → nat_le (length r) limit ≡ true
      → t1 ≡ t0 ++ k.span.items → Grows t0 t1 (rest_text m limit r) r
  writes_whole h l e = (
    r,
    ap (λ x. x ++ r) (sym (rest_whole m limit r l)),
    e ∙ ap (λ p. t0 ++ p) (whole_by k.is_over h l),
  )

  module _ (x : List ℕ) (new : Kept A) where
    pub extends_over : KeepsBy limit r k true
        → prefix_of new.begun ≡ begun_after (prefix_of k.begun) x
        → t1 ≡ t0 ++ settled_text (prefix_of k.begun) x
        → KeepsBy limit (r ++ x) new true
        × Grows t0 t1 (rest_text m limit r) (rest_text m limit (r ++ x))
    extends_over h p e =
        let g = begun_after [] r in
        let over = over_more limit r x h.0 in (
          (over, p ∙ ap (λ f. begun_after f x) h.1 ∙ sym (begun_append [] r x)),
          (
            settled_text g x,
            rest_over m limit (r ++ x) over ∙ ap (λ t. opening m ++ t) (settled_append [] r x)
                ∙ sym (append_assoc (opening m) (settled_text [] r) (settled_text g x))
                ∙ ap (λ t. t ++ settled_text g x) (sym (rest_over m limit r h.0)),
            e ∙ ap (λ f. t0 ++ settled_text f x) h.1,
          ),
        )

    -- if they were kept whole, and are not any more
    pub overflows : Keeps limit r k → k.is_over ≡ false → limit < length r + length x
        → (f to tm : List ℕ) → f ≡ begun_after [] k.span.items
        → prefix_of new.begun ≡ begun_after f x → to ≡ t0 ++ opening m
        → tm ≡ to ++ settled_text [] k.span.items → t1 ≡ tm ++ settled_text f x
        → KeepsBy limit (r ++ x) new true
        × Grows t0 t1 (rest_text m limit r) (rest_text m limit (r ++ x))
    overflows h kept long f to tm begun p o d e =
        let q = subst (KeepsBy limit r k) kept h in
        let over = long_over limit r x long in
        let g = begun_after [] r in
        let same : f ≡ g = begun ∙ ap (begun_after []) q.1 in (
          (over, p ∙ ap (λ y. begun_after y x) same ∙ sym (begun_append [] r x)),
          (
            opening m ++ settled_text [] (r ++ x),
            rest_over m limit (r ++ x) over
                ∙ ap (λ t. t ++ (opening m ++ settled_text [] (r ++ x)))
                (sym (rest_whole m limit r q.0)),
            e ∙ ap (λ y. tm ++ settled_text y x) same
                ∙ ap (λ t. t ++ settled_text g x) (d ∙ ap (λ y. to ++ settled_text [] y) q.1)
                ∙ append_assoc to (settled_text [] r) (settled_text g x)
                ∙ ap (λ t. to ++ t) (sym (settled_append [] r x))
                ∙ ap (λ t. t ++ settled_text [] (r ++ x)) o
                ∙ append_assoc t0 (opening m) (settled_text [] (r ++ x)),
          ),
        )

    -- if they are kept whole
    pub extends_whole : KeepsBy limit r k false → length k.span.items + length x ≤ limit
        → new.span.items ≡ k.span.items ++ x
        → KeepsBy limit (r ++ x) new false
        × Grows t0 t0 (rest_text m limit r) (rest_text m limit (r ++ x))
    extends_whole h few e =
        let room = short_within limit r x (subst (λ y. length y + length x ≤ limit) h.1 few) in (
          (room, e ∙ ap (λ y. y ++ x) h.1),
          (
            [],
            rest_whole m limit (r ++ x) room
                ∙ ap (λ y. y ++ []) (sym (rest_whole m limit r h.0)),
            sym (append-nil t0),
          ),
        )

    -- the count of the bytes that are kept
    pub long_of : KeepsBy limit r k false → limit < length k.span.items + length x
        → limit < length r + length x
    long_of h l = subst (λ y. limit < length y + length x) h.1 l
