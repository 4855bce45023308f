-- Bytes without a byte, and clear parts that are cut at an ASCII character.
use Rattle.std.proofs.Common.{ℕ, suc, ◌≡◌, ◌≢◌, ◌<◌, Bool, true, false, ◌==◌, inl, inr, List, [], ◌∷◌, ◌++◌, length, get_or, Option, Some, None, refl}
use Rattle.std.proofs.Common.{ap, sym, ◌∙◌, subst, arith, eq-eqb}
use Rattle.std.specs.Char.{encode_utf8}
use Rattle.std.specs.List.{slice_split, list_all}
use Rattle.std.specs.Option.{option_map}
use Rattle.std.specs.Str.{encode_utf8_all}
use Rattle.std.proofs.lemmas.Bool.{eqb-true, eqb-false, ne_eqb, cases_Bool, and_parts}
use Rattle.std.proofs.lemmas.List.{append-nil}
use Rattle.std.proofs.lemmas.Str.{inside_one, encode_ascii}
use Rattle.esc_values.specs.Clear.{is_part_char, IsTextOf, IsClearPart}
use Rattle.esc_values.specs.Cuts.{cut_at}
use Rattle.esc_values.proofs.Numbers.FactsIfSome.{Where, where_map}

-- bytes without the byte b; of a literal by `refl`
abbrev pub Free : ℕ → List ℕ → Type 0
Free b t = cut_at b t ≡ None

pub free_more : (b x : ℕ) (t : List ℕ) → (x == b) ≡ false → Free b t → Free b (x ∷ t)
free_more b x t other h = rw (other, h) refl

none_before : {X Y : Type 0} (f : X → Y) (o : Option X) → option_map f o ≡ None → o ≡ None
none_before f None h = refl
none_before f (Some x) h = absurd cc

free_parts : (b x : ℕ) (t : List ℕ) → Free b (x ∷ t) → ((x == b) ≡ false) × Free b t
free_parts b x t h =
    elim (cases_Bool (x == b)) [
      | inl held ↦ let bad = rw held at h in absurd cc
      | inr failed ↦ (failed, none_before _ (cut_at b t) (rw failed at h))
    ]

pub free_from : (b : ℕ) (t : List ℕ) → ((k : ℕ) → k < length t → get_or t k 0 ≢ b) → Free b t
free_from b [] h = refl
free_from b (x ∷ t) h =
    free_more b x t (ne_eqb x b (h 0 (omega arith))) (free_from b t (λ k below.
    h (suc k) (omega arith)))

pub encode_free : (b c : ℕ) → b < 128 → c ≢ b → Free b (encode_utf8 c)
encode_free b c small other = free_from b (encode_utf8 c) (λ k below e.
    let low : get_or (encode_utf8 c) k 0 < 128 = omega (arith, e, small) in
    other (inside_one c [] (encode_utf8 c) k (sym (append-nil (encode_utf8 c))) below low ∙ e))

pub free_append : (b : ℕ) (t u : List ℕ) → Free b t → Free b u → Free b (t ++ u)
free_append b [] u h k = k
free_append b (x ∷ t) u h k = let q = free_parts b x t h in
    free_more b x (t ++ u) q.0 (free_append b t u q.1 k)

-- a text that passes a test which b does not pass
pub free_passes : (b : ℕ) (f : ℕ → Bool) → f b ≡ false → (t : List ℕ) → list_all f t ≡ true
    → Free b t
free_passes b f fails [] h = refl
free_passes b f fails (x ∷ t) h =
    let q = and_parts (f x) (list_all f t) h in
    elim (cases_Bool (x == b)) [
      | inl held ↦ let same : x ≡ b = eqb-true x b held in let bad : f b ≡ true =
          subst (λ y. f y ≡ true) same q.0 in absurd cc
      | inr failed ↦ free_more b x t failed (free_passes b f fails t q.1)
    ]

-- the bytes before a cut are without its byte
abbrev pub FirstFree : ℕ → List ℕ × List ℕ → Type 0
FirstFree b p = Free b p.0

pub cut_lacks : (b : ℕ) (t : List ℕ) → Where (FirstFree b) (cut_at b t)
cut_lacks b [] = tt
cut_lacks b (x ∷ t) =
    elim (cases_Bool (x == b)) [
      | inl held ↦ rw held refl
      | inr failed ↦ rw failed (where_map (FirstFree b) (FirstFree b) (λ p. (x ∷ p.0, p.1)) (λ p h.
          free_more b x p.0 failed h) (cut_at b t) (cut_lacks b t))
    ]

-- a text without a byte is without it on both sides of a cut
abbrev pub BothFree : ℕ → List ℕ × List ℕ → Type 0
BothFree a p = Free a p.0 × Free a p.1

pub cut_keeps : (a b : ℕ) (t : List ℕ) → Free a t → Where (BothFree a) (cut_at b t)
cut_keeps a b [] h = tt
cut_keeps a b (x ∷ t) h =
    let q = free_parts a x t h in
    elim (cases_Bool (x == b)) [
      | inl held ↦ rw held (refl, q.1)
      | inr failed ↦ rw failed
          (where_map (BothFree a) (BothFree a) (λ p. (x ∷ p.0, p.1)) (λ p both.
          (free_more a x p.0 q.0 both.0, both.1)) (cut_at b t) (cut_keeps a b t q.1))
    ]

-- both sides of a cut are clear parts
abbrev pub BothClear : List ℕ × List ℕ → Type 0
BothClear p = IsClearPart p.0 × IsClearPart p.1

-- the bytes before the cut, with x before them
abbrev After : List ℕ → Option (List ℕ × List ℕ) → Option (List ℕ × List ℕ)
After x o = option_map (λ (p : List ℕ × List ℕ). (x ++ p.0, p.1)) o

after_none : (o : Option (List ℕ × List ℕ)) → o ≡ After [] o
after_none None = refl
after_none (Some p) = refl

after_one : (a : ℕ) (x : List ℕ) (o : Option (List ℕ × List ℕ))
    → option_map (λ (p : List ℕ × List ℕ). (a ∷ p.0, p.1)) (After x o) ≡ After (a ∷ x) o
after_one a x None = refl
after_one a x (Some p) = refl

cut_after : (b : ℕ) (x r : List ℕ) → Free b x → cut_at b (x ++ r) ≡ After x (cut_at b r)
cut_after b [] r h = after_none (cut_at b r)
cut_after b (a ∷ x) r h = let q = free_parts b a x h in
    rw (q.0, cut_after b x r q.1) (after_one a x (cut_at b r))

cut_here : (b : ℕ) (r : List ℕ) → cut_at b (b ∷ r) ≡ Some ([], r)
cut_here b r = rw (eq-eqb b b refl) refl

-- bytes that were put together are cut there
pub cut_there : (b : ℕ) (x r : List ℕ) → Free b x → cut_at b (x ++ b ∷ r) ≡ Some (x, r)
cut_there b x r h =
    let f : List ℕ → Option (List ℕ × List ℕ) = λ t. Some (t, r) in
    cut_after b x (b ∷ r) h ∙ rw (cut_here b r) (ap f (append-nil x))

part_more : (c : ℕ) (p : List ℕ) → is_part_char c ≡ true → IsClearPart p
    → IsClearPart (encode_utf8 c ++ p)
part_more c p ok (ds, all, e) = (c ∷ ds, rw (ok, all) refl, ap (λ t. encode_utf8 c ++ t) e)

pub no_part : IsClearPart []
no_part = ([], refl, refl)

cut_chars : (b : ℕ) (cs : List ℕ) → b < 128 → list_all is_part_char cs ≡ true
    → Where BothClear (cut_at b (encode_utf8_all cs))
cut_chars b [] small h = tt
cut_chars b (c ∷ cs) small h =
    let q = and_parts (is_part_char c) (list_all is_part_char cs) h in
    elim (cases_Bool (c == b)) [
      | inl held ↦ let same : c ≡ b = eqb-true c b held in
          rw (same, encode_ascii b small, cut_here b (encode_utf8_all cs)) (
            no_part,
            (cs, q.1, refl),
          )
      | inr failed ↦ rw (cut_after b (encode_utf8 c) (encode_utf8_all cs)
          (encode_free b c small (eqb-false c b failed)))
          (where_map BothClear BothClear (λ p. (encode_utf8 c ++ p.0, p.1)) (λ p k.
          (part_more c p.0 q.0 k.0, k.1)) (cut_at b (encode_utf8_all cs))
          (cut_chars b cs small q.1))
    ]

pub cut_clear : (b : ℕ) (t : List ℕ) → b < 128 → IsClearPart t → Where BothClear (cut_at b t)
cut_clear b t small (cs, all, e) = let P : List ℕ → Type 0 = λ u. Where BothClear (cut_at b u) in
    subst P e (cut_chars b cs small all)

-- splitting
pub split_free : (b : ℕ) (x r p : List ℕ) (ps : List (List ℕ)) → Free b x
    → slice_split (λ c. c == b) r ≡ p ∷ ps
    → slice_split (λ c. c == b) (x ++ r) ≡ (x ++ p) ∷ ps
split_free b [] r p ps h e = e
split_free b (a ∷ x) r p ps h e = let q = free_parts b a x h in
    rw (q.0, split_free b x r p ps q.1 e) refl

-- a clear part without b
abbrev pub IsStretch : ℕ → List ℕ → Type 0
IsStretch b p = IsClearPart p × Free b p

abbrev pub AreStretchs : ℕ → List (List ℕ) → Type 0
AreStretchs b [] = Unit {0}
AreStretchs b (p ∷ ps) = IsStretch b p × AreStretchs b ps

-- the slices of a text between the bytes b: at least one
abbrev pub SplitsAt : ℕ → List ℕ → Type 0
SplitsAt b t = (p : List ℕ) × (ps : List (List ℕ)) × (slice_split (λ c. c == b) t ≡ p ∷ ps)
    × IsStretch b p × AreStretchs b ps

split_char : (b c : ℕ) (r : List ℕ) (q : Bool) → b < 128 → (c == b) ≡ q
    → (c ≢ b → is_part_char c ≡ true) → SplitsAt b r → SplitsAt b (encode_utf8 c ++ r)
split_char b c r true small e ok (p, ps, is, one, more) =
    let same : c ≡ b = eqb-true c b e in (
      [],
      p ∷ ps,
      rw (same, encode_ascii b small, eq-eqb b b refl, is) refl,
      (no_part, refl),
      (one, more),
    )
split_char b c r false small e ok (p, ps, is, one, more) =
    let other = eqb-false c b e in
    let free = encode_free b c small other in (
      encode_utf8 c ++ p,
      ps,
      split_free b (encode_utf8 c) r p ps free is,
      (part_more c p (ok other) one.0, free_append b (encode_utf8 c) p free one.1),
      more,
    )

split_chars : (f : ℕ → Bool) (b : ℕ) → b < 128
    → ((c : ℕ) → f c ≡ true → c ≢ b → is_part_char c ≡ true) → (cs : List ℕ) → list_all f cs ≡ true
    → SplitsAt b (encode_utf8_all cs)
split_chars f b small ok [] all = ([], [], refl, (no_part, refl), tt)
split_chars f b small ok (c ∷ cs) all =
    let q = and_parts (f c) (list_all f cs) all in
    split_char b c (encode_utf8_all cs) (c == b) small refl (ok c q.0)
    (split_chars f b small ok cs q.1)

-- a text whose characters, but b, are those of clear parts
pub splits : (f : ℕ → Bool) (b : ℕ) (t : List ℕ) → b < 128
    → ((c : ℕ) → f c ≡ true → c ≢ b → is_part_char c ≡ true) → IsTextOf f t → SplitsAt b t
splits f b t small ok (cs, all, e) = let P : List ℕ → Type 0 = λ u. SplitsAt b u in
    subst P e (split_chars f b small ok cs all)
