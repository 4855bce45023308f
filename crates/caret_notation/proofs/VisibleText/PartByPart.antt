-- A fact about the text of each part of some bytes is one about their text.
use Rattle.std.proofs.Common.{ℕ, ◌≡◌, ◌<◌, ◌≤◌, ◌⊎◌, inl, inr, Bool, true, false, if◌then◌else◌, List, [], ◌∷◌, ◌++◌, arith, refl, ap, sym, ◌∙◌, subst, append_assoc}
use Rattle.std.specs.List.{list_all}
use Rattle.std.proofs.lemmas.Bool.Decides.{nat_tests}
use Rattle.std.proofs.lemmas.Bool.{and_parts}
use Rattle.std.proofs.lemmas.List.{append-nil}
use Rattle.esc_frame.specs.Sequences.{is_prefix, is_sequence, outcome}
use Rattle.esc_frame.specs.declared.utf8.sequence.Outcome.{Outcome}
use Rattle.esc_frame.specs.declared.utf8.sequence.Outcome.TheVariants.{Whole, More, Broken}
use Rattle.caret_notation.specs.ReadBack.{is_byte}
use Rattle.caret_notation.specs.Visible.{begun_after, character_text, first_begun, first_text, next_begun, next_text, settled_text, single_text, stray_text, visible_text}

-- bytes from 80 on
abbrev pub AreHigh : List ℕ → Type 0
AreHigh [] = Unit {0}
AreHigh (b ∷ x) = (0x80 ≤ b) × (b < 0x100) × AreHigh x

pub prefix_high : (f : List ℕ) → is_prefix f ≡ true → AreHigh f
unfolding is_prefix
prefix_high [] h = tt
prefix_high (a ∷ []) h = (grind (arith, nat_tests), grind (arith, nat_tests), tt)
prefix_high (a ∷ b ∷ []) h = (
  grind (arith, nat_tests),
  grind (arith, nat_tests),
  (grind (arith, nat_tests), grind (arith, nat_tests), tt),
)
prefix_high (a ∷ b ∷ c ∷ []) h = (
  grind (arith, nat_tests),
  grind (arith, nat_tests),
  (
    grind (arith, nat_tests),
    grind (arith, nat_tests),
    (grind (arith, nat_tests), grind (arith, nat_tests), tt),
  ),
)
prefix_high (a ∷ b ∷ c ∷ d ∷ x) h = absurd cc

-- the begun bytes: none, or a prefix of a sequence
abbrev pub HasBegun : List ℕ → Type 0
HasBegun f = (f ≡ []) ⊎ (is_prefix f ≡ true)

begun_high : (f : List ℕ) → HasBegun f → AreHigh f
begun_high f (inl e) = subst AreHigh (sym e) tt
begun_high f (inr h) = prefix_high f h

byte_below : (b : ℕ) → is_byte b ≡ true → b < 0x100
byte_below b h = grind (arith, nat_tests)

module _ (Q : List ℕ → List ℕ → Type 0) (nothing : Q [] [])
    (both : (t u x y : List ℕ) → Q t x → Q u y → Q (t ++ u) (x ++ y))
    (single : (b : ℕ) → b < 0x100 → Q (single_text b) (b ∷ []))
    (stray : (f : List ℕ) → AreHigh f → Q (stray_text f) f)
    (character : (x : List ℕ) → is_sequence x ≡ true → Q (character_text x) x) where
  -- a byte completes the text of some bytes, and leaves others begun
  abbrev Completes : List ℕ → List ℕ → List ℕ → Type 0
  Completes whole t begun =
      (x : List ℕ) × Q t x × HasBegun begun × (x ++ begun ≡ whole)

  first : (b : ℕ) → b < 0x100 → Completes (b ∷ []) (first_text b) (first_begun b)
  first b h = by_prefix (is_prefix (b ∷ [])) refl
    where
      by_prefix : (p : Bool) → is_prefix (b ∷ []) ≡ p
          → Completes (b ∷ []) (if p then [] else single_text b) (if p then b ∷ [] else [])
      by_prefix true e = ([], nothing, inr e, refl)
      by_prefix false e = (b ∷ [], single b h, inl refl, refl)

  abbrev Next : List ℕ → ℕ → Outcome → Type 0
  Next f b o = Completes (f ++ b ∷ []) (next_text f b o) (next_begun f b o)

  next : (f : List ℕ) (b : ℕ) → HasBegun f → b < 0x100
      → Completes (f ++ b ∷ []) (next_text f b (outcome f b)) (next_begun f b (outcome f b))
  next f b begun h =
      by_tests (is_sequence (f ++ b ∷ [])) (is_prefix (f ++ b ∷ [])) refl refl
    where
      broken : Completes (b ∷ []) (first_text b) (first_begun b) → Next f b Broken
      broken (x, q, g, e) = (
        f ++ x,
        both (stray_text f) (first_text b) f x (stray f (begun_high f begun)) q,
        g,
        append_assoc f x (first_begun b) ∙ ap (λ y. f ++ y) e,
      )

      by_tests : (x y : Bool) → is_sequence (f ++ b ∷ []) ≡ x → is_prefix (f ++ b ∷ []) ≡ y
          → Next f b (if x then Whole else if y then More else Broken)
      by_tests true y e k = (f ++ b ∷ [], character (f ++ b ∷ []) e, inl refl, append-nil _)
      by_tests false true e k = ([], nothing, inr k, refl)
      by_tests false false e k = broken (first b h)

  all_from : (f s : List ℕ) → HasBegun f → list_all is_byte s ≡ true
      → Q (settled_text f s ++ stray_text (begun_after f s)) (f ++ s)
  all_from f [] begun h = subst (Q (stray_text f)) (sym (append-nil f))
      (stray f (begun_high f begun))
  all_from f (b ∷ s) begun h =
      let p = and_parts (is_byte b) (list_all is_byte s) h in
      let (x, q, g, e) = next f b begun (byte_below b p.0) in
      let n = next_begun f b (outcome f b) in
      let t = next_text f b (outcome f b) in
      let u = settled_text n s in
      let v = stray_text (begun_after n s) in
      subst (λ z. Q z (f ++ b ∷ s)) (sym (append_assoc t u v))
      (subst (Q (t ++ (u ++ v)))
      (sym (append_assoc x n s) ∙ ap (λ y. y ++ s) e ∙ append_assoc f (b ∷ []) s)
      (both t (u ++ v) x (n ++ s) q (all_from n s g p.1)))

  pub all_parts : (s : List ℕ) → list_all is_byte s ≡ true → Q (visible_text s) s
  all_parts s h = all_from [] s (inl refl) h
