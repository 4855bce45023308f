-- Texts without their pairs, and filters that are fed these.
use Rattle.std.proofs.Common.{ℕ, zero, suc, ◌≡◌, ◌≤◌, ◌<◌, ◌+◌, ◌==◌, ◌&&◌, Bool, true, false, not, nat_le, if◌then◌else◌, List, [], ◌∷◌, ◌++◌, get_or, length, take, refl, ap, sym, subst, ◌∙◌, append_assoc, arith}
use Rattle.std.proofs.lemmas.Bool.{and_parts, false_from_ne_true}
use Rattle.std.proofs.lemmas.Bool.Decides.{nat_tests}
use Rattle.std.proofs.lemmas.List.{length-append}
use Rattle.esc_decode.specs.Decodings.{OnlyAdds}
use Rattle.esc_normal.specs.declared.feeding.StreamFilter.{Ghosts as Feeder}
use Rattle.memchr.specs.Find.{is_byte}
use Rattle.eschtml.specs.Joined.{Joins, bytes_past, held_after, text_without_pairs, joined_after, next_held, pair, through_joined}

-- ---- bytes, and then more

pub joined_append : (k : ℕ) (x y : List ℕ)
    → joined_after k (x ++ y) ≡ joined_after k x ++ joined_after (held_after k x) y
joined_append k [] y = refl
joined_append k (b ∷ x) y =
    ap (λ t. bytes_past k b ++ t) (joined_append (next_held k b) x y)
    ∙ sym (append_assoc (bytes_past k b) (joined_after (next_held k b) x)
    (joined_after (held_after (next_held k b) x) y))

pub held_append : (k : ℕ) (x y : List ℕ)
    → held_after k (x ++ y) ≡ held_after (held_after k x) y
held_append k [] y = refl
held_append k (b ∷ x) y = held_append (next_held k b) x y

-- ---- bytes without ESC

plain_by : (b : ℕ) (t : List ℕ) → is_byte 0x1b b ≡ false
    → (joined_after 0 (b ∷ t) ≡ b ∷ joined_after 0 t)
    × (held_after 0 (b ∷ t) ≡ held_after 0 t)
plain_by b t h = (rw h refl, rw h refl)

pub plain_stays : (s : List ℕ) (n : ℕ) → n ≤ length s
    → ((i : ℕ) → 0 ≤ i → i < n → is_byte 0x1b (get_or s i 0) ≡ true → ⊥)
    → (joined_after 0 (take n s) ≡ take n s) × (held_after 0 (take n s) ≡ 0)
plain_stays s zero l h = (refl, refl)
plain_stays [] (suc n) l h = absurd (omega (arith, l))
plain_stays (b ∷ s) (suc n) l h =
    let more = plain_stays s n (omega (arith, l))
    (λ i low m. h (suc i) (omega arith) (omega (arith, m))) in
    let one = plain_by b (take n s)
    (false_from_ne_true (is_byte 0x1b b) (h 0 (omega arith) (omega arith))) in
    (one.0 ∙ ap (λ t. b ∷ t) more.0, one.1 ∙ more.1)

-- ---- one call

module _ {F A : Type 0} (G : Feeder F A) (held : ℕ) (filter : F) (m c : List ℕ → List ℕ)
    (s : List ℕ) (h : Joins G held filter m c s) where
  text_is : (x : List ℕ) → m x ≡ h.inner (text_without_pairs x)
  text_is x = ap (λ f. f x) h.goes_on

  end_is : c s ≡ h.inner_end (text_without_pairs s)
  end_is = ap (λ f. f s) h.ended

  added_is : (b : List ℕ) → text_without_pairs (s ++ b)
      ≡ text_without_pairs s ++ joined_after held b
  added_is b = joined_append 0 s b ∙ ap (λ k. text_without_pairs s ++ joined_after k b) (sym h.left)

  pub joins_longer : (b : List ℕ) → (t : List ℕ) × (m (s ++ b) ≡ m s ++ t)
  joins_longer b =
      let (t, f) = h.adds.more (text_without_pairs s) (joined_after held b) in
      (t, text_is (s ++ b) ∙ ap h.inner (added_is b) ∙ f ∙ ap (λ y. y ++ t) (sym (text_is s)))

  pub joins_end_longer : (t : List ℕ) × (c s ≡ m s ++ t)
  joins_end_longer =
      let (t, f) = h.adds.end (text_without_pairs s) in
      (t, end_is ∙ f ∙ ap (λ y. y ++ t) (sym (text_is s)))

  -- the filter was fed the bytes that some bytes add
  pub joins_fed : (b x t : List ℕ) (after : ℕ) (new : F) → x ≡ joined_after held b
      → after ≡ held_after held b → G.gives new h.inner h.inner_end (text_without_pairs s ++ x)
      → h.inner (text_without_pairs s ++ x) ≡ h.inner (text_without_pairs s) ++ t
      → Joins G after new m c (s ++ b) × (m (s ++ b) ≡ m s ++ t)
  joins_fed b x t after new is has given added =
      let whole : text_without_pairs s ++ x ≡ text_without_pairs (s ++ b) =
      ap (λ y. text_without_pairs s ++ y) is ∙ sym (added_is b) in (
        record {
          inner = h.inner;
          inner_end = h.inner_end;
          adds = h.adds;
          given = subst (G.gives new h.inner h.inner_end) whole given;
          left = has ∙ ap (λ k. held_after k b) h.left ∙ sym (held_append 0 s b);
          goes_on = h.goes_on;
          ended = h.ended;
        },
        text_is (s ++ b) ∙ ap h.inner (sym whole) ∙ added
            ∙ ap (λ y. y ++ t) (sym (text_is s)),
      )

  pub joins_ended : (t : List ℕ)
      → h.inner_end (text_without_pairs s) ≡ h.inner (text_without_pairs s) ++ t → c s ≡ m s ++ t
  joins_ended t added = end_is ∙ added ∙ ap (λ y. y ++ t) (sym (text_is s))

-- ---- a filter that was fed nothing

pub joins_begin : {F A : Type 0} (G : Feeder F A) (filter : F) (m c : List ℕ → List ℕ)
    → G.gives filter m c [] → OnlyAdds m c
    → Joins G 0 filter (through_joined m) (through_joined c) []
joins_begin G filter m c given adds = record {
  inner = m;
  inner_end = c;
  adds = adds;
  given = given;
  left = refl;
  goes_on = refl;
  ended = refl;
}

-- ---- more of a text

pub joined_adds : (m c : List ℕ → List ℕ) → OnlyAdds m c
    → OnlyAdds (through_joined m) (through_joined c)
joined_adds m c only = record {
  more = λ s b.
      let (t, f) = only.more (text_without_pairs s) (joined_after (held_after 0 s) b) in
      (t, ap m (joined_append 0 s b) ∙ f);
  end = λ s. only.end (text_without_pairs s);
}

-- ---- lengths: a text is no longer without its pairs

pub taken_most : (k : ℕ) (l : List ℕ) → length (take k l) ≤ k
taken_most zero l = omega arith
taken_most (suc k) [] = omega arith
taken_most (suc k) (b ∷ l) = omega (arith, taken_most k l)

is_seven : (k : ℕ) (b : ℕ) → ((k == 7) && (b == 0x32)) ≡ true → k ≡ 7
is_seven k b e = let h = (and_parts (k == 7) (b == 0x32) e).0 in grind (arith, nat_tests)

gone_most : (k b : ℕ) → length (bytes_past k b) + next_held k b ≤ k + 1
gone_most k b =
    by (b == get_or pair k 0) (nat_le 8 k) ((k == 7) && (b == 0x32)) refl (b == 0x1b)
  where
    by : (x n y : Bool) → ((k == 7) && (b == 0x32)) ≡ y → (z : Bool)
        → length (take (if x then 0 else if y then 5 else k) pair
        ++ (if (if x then false else if y then false else not z) then b ∷ [] else []))
        + (if x then (if n then 0 else suc k) else if y then 3 else if z then 1 else 0) ≤ k + 1
    by true true y e z = omega arith
    by true false y e z = omega arith
    by false n true e z = let h = is_seven k b e in omega arith
    by false n false e true =
        omega (arith, length-append (take k pair) [], taken_most k pair)
    by false n false e false =
        omega (arith, length-append (take k pair) (b ∷ []), taken_most k pair)

pub joined_most : (k : ℕ) (t : List ℕ)
    → length (joined_after k t) + held_after k t ≤ k + length t
joined_most k [] = omega arith
joined_most k (b ∷ t) = omega (
  arith,
  length-append (bytes_past k b) (joined_after (next_held k b) t),
  gone_most k b,
  joined_most (next_held k b) t,
)
