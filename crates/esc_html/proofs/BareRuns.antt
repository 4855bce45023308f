-- Bytes that are looked at together, and are all written as they are.
use Rattle.std.proofs.Common.{ℕ, zero, suc, ◌≡◌, ◌≤◌, ◌+◌, ◌%◌, ◌^◌, ◌==◌, Bool, true, false, not, List, [], ◌∷◌, map, length, take, drop, get_or, Fits}
use Rattle.std.proofs.Common.{refl, ap, sym, ◌∙◌, inl, inr, arith, w8, length-drop}
use Rattle.std.specs.List.{list_all, prefix_len}
use Rattle.std.proofs.Math.Seq.{take-add}
use Rattle.std.proofs.lemmas.Bool.{agree_below, and_parts, cases_Bool, true≢false}
use Rattle.std.proofs.lemmas.Bool.Decides.{nat_tests}
use Rattle.std.proofs.lemmas.List.{take-append-drop, take_all}
use Rattle.std.proofs.lemmas.List.Folds.{list_all-append}
use Rattle.std.proofs.lemmas.Simd.{length-chunk}
use lib.Lanes.{mask_l, top}
use Rattle.esc_frame.specs.Scans.{lowest}
use Rattle.esc_frame.proofs.ByteRuns.LanesPass.{lowest_lane}

-- a run as long as the list is all of it
same_end : (m n : ℕ) → (1 + m == suc n) ≡ (m == n)
same_end m n = grind (arith, nat_tests)

before_end : (n : ℕ) → (0 == suc n) ≡ false
before_end n = grind (arith, nat_tests)

pub whole_run : (p : ℕ → Bool) (x : List ℕ) → (prefix_len p x == length x) ≡ list_all p x
whole_run p [] = refl
whole_run p (b ∷ x) =
    elim (cases_Bool (p b)) [
      | inl held ↦ rw held (same_end (prefix_len p x) (length x) ∙ whole_run p x)
      | inr failed ↦ rw failed (before_end (length x))
    ]

-- a part of bytes that all pass
pub part_passes : (p : ℕ → Bool) (x : List ℕ) (m n : ℕ) → list_all p x ≡ true
    → list_all p (take n (drop m x)) ≡ true
part_passes p x m n h =
    let rest = (split p x m h).1 in (split p (drop m x) n rest).0
  where
    split : (p : ℕ → Bool) (x : List ℕ) (m : ℕ) → list_all p x ≡ true
        → (list_all p (take m x) ≡ true) × (list_all p (drop m x) ≡ true)
    split p x m h =
        and_parts (list_all p (take m x)) (list_all p (drop m x))
        (sym (list_all-append p (take m x) (drop m x))
        ∙ ap (list_all p) (take-append-drop m x) ∙ h)

-- a part does not pass
pub part_fails : (p : ℕ → Bool) (x : List ℕ) (m n : ℕ)
    → list_all p (take n (drop m x)) ≡ false → list_all p x ≡ false
part_fails p x m n h =
    elim (cases_Bool (list_all p x)) [
      | inl held ↦ absurd (true≢false (sym (part_passes p x m n held) ∙ h))
      | inr failed ↦ failed
    ]

-- some bytes, and those after them
pub joined : (p : ℕ → Bool) (x : List ℕ) (m n : ℕ) → list_all p (take m x) ≡ true
    → list_all p (take n (drop m x)) ≡ true → list_all p (take (m + n) x) ≡ true
joined p x m n h k =
    ap (list_all p) (take-add m n x) ∙ list_all-append p (take m x) (take n (drop m x))
    ∙ rw (h, k) refl

-- two parts that overlap
both_pass : (p : ℕ → Bool) (x : List ℕ) (m n : ℕ) → m ≤ n → list_all p (take n x) ≡ true
    → list_all p (drop m x) ≡ true → list_all p x ≡ true
both_pass p [] m n l h k = refl
both_pass p (b ∷ x) zero n l h k = k
both_pass p (b ∷ x) (suc m) zero l h k = absurd (omega (arith, l))
both_pass p (b ∷ x) (suc m) (suc n) l h k =
    let parts = and_parts (p b) (list_all p (take n x)) h in
    rw parts.0 (both_pass p x m n (omega (arith, l)) parts.1 k)

pub overlapped : (p : ℕ → Bool) (x : List ℕ) (m n : ℕ) → m + n ≡ length x → (at : ℕ) → m ≤ at
    → list_all p (take at x) ≡ true → list_all p (take n (drop m x)) ≡ list_all p x
overlapped p x m n e at l h =
    elim (cases_Bool (list_all p (take n (drop m x)))) [
      | inl held ↦
          let last : list_all p (drop m x) ≡ true =
          ap (list_all p) (sym (take_all n (drop m x) (omega (arith, e, length-drop m x)))) ∙ held
          in held ∙ sym (both_pass p x m at l h last)
      | inr failed ↦ failed ∙ sym (part_fails p x m n failed)
    ]

-- lanes that were computed from bytes
pub lanes_pass : (q : ℕ → Bool) (f : ℕ → ℕ) (z bytes : List ℕ) (at n : ℕ)
    → at + n ≤ length bytes → n ≤ 64 → ((k : ℕ) → Fits w8 (get_or bytes k 0))
    → agree_below (λ x. not (top 7 (f x))) q 256 ≡ true → z ≡ map f (take n (drop at bytes))
    → (lowest (mask_l (map (top 7) z) % 2 ^ 64) n == n) ≡ list_all q (take n (drop at bytes))
lanes_pass q f z bytes at n room few fits h lanes =
    ap (λ k. k == n) (lowest_lane q f z bytes at n room few fits h lanes)
    ∙ ap (λ k. prefix_len q (take n (drop at bytes)) == k) (sym (length-chunk at n bytes room))
    ∙ whole_run q (take n (drop at bytes))
