-- A block of more than 1024 bytes is one of the inner allocator: its token is that allocator's.
-- Assumes `Logic`.
use Rattle.std.proofs.Common.{◌≡◌, ℕ, ◌*◌, ◌^◌, ◌<◌, Bool, true, false, leb, List, [], ◌∷◌, refl, sym, ap, subst, arith, w64, leb-true}
use seplogic.Ra.Ura.{Ura}
use mir.Syntax.{Ty, ty_array}
use base.Logic.{ent}
use base.Fml.{Fml}
use mir.Val.{Val, vint}
use prog.Memory.{size, capped}
use prog.RawLaws.{size-raw}
use types.Logic.{Logic, sem}
use types.Kit.{‵, ◌$◌, ◌∵◌, !, qed, move, rewrite, fsplit3, fjoin3, done}
use denote.RattleType.{RattleType}
use denote.Memory.{lone}
use denote.RawPtr.{Ptr, block_ptr}
use Rattle.core.specs.Allocator.{array_of, block_with_items, resized_if_ok}
use Rattle.core.proofs.alloc.Resizes.{wider, times_capped, result_of}
use Rattle.caching_alloc.specs.Sizes.{block_size}
use Rattle.caching_alloc.specs.Ownership.{either, part_of_block, block_token}

by_test : {X : Type 0} (t : Bool) → (t ≡ true → X) → (t ≡ false → X) → X
by_test true f g = f refl
by_test false f g = g refl

pub large_array : (R : RattleType) (n : ℕ) → 1024 < n * size (lone R.mir)
    → leb (size (array_of R n)) 1024 ≡ false
large_array R n large = by_test (leb (size (array_of R n)) 1024) (λ e. absurd (omega (
  arith,
  leb-true (size (array_of R n)) 1024 e,
  size-raw (ty_array (lone R.mir) n),
))) (λ e. e)

abbrev word : ℕ → Val
word = vint w64

-- the product that the code computes
pub product : (n s : ℕ) → n * s < 2 ^ 63 → word (n * capped s) ≡ word (n * s)
product n s f = ap word (times_capped n s f)

pub product_fits : (n s : ℕ) → n * s < 2 ^ 63 → n * capped s < 2 ^ 64
product_fits n s f = subst (λ (k : ℕ). k < 2 ^ 64) (sym (times_capped n s f)) (wider (n * s) f)

module _ {M : Type 1} {𝓤 : Ura M} (𝓛 : Logic 𝓤) (t : Ty → Ptr → Fml) (R : RattleType) where
  abbrev inner : Ptr → ℕ → ℕ → List R.Denot → Fml
  inner = block_with_items t R

  abbrev outer : Ptr → ℕ → ℕ → List R.Denot → Fml
  outer = block_with_items (block_token t) R

  abbrev way : ℕ → Ptr → Bool → Fml
  way n p small = either small (part_of_block t (block_size (size (array_of R n))) (array_of R n) p)
      (t (array_of R n) p)

  pub wraps : (p : Ptr) (len n : ℕ) (xs : List R.Denot) → 1024 < n * size (lone R.mir)
      → ent 𝓤 (sem 𝓛 (inner p len n xs)) (sem 𝓛 (outer p len n xs))
  wraps p len n xs large =
      qed 𝓛 (‵ (inner p len n xs) ∷ []) ∵ fsplit3 ! $ move ! (2 ∷ []) $
      rewrite ! 0 (λ (small : Bool). ‵ (way n p small)) (sym (large_array R n large)) refl $
      move ! (1 ∷ 2 ∷ 0 ∷ []) $ fjoin3 ! $ done !

  pub unwraps : (p : Ptr) (len n : ℕ) (xs : List R.Denot) → 1024 < n * size (lone R.mir)
      → ent 𝓤 (sem 𝓛 (outer p len n xs)) (sem 𝓛 (inner p len n xs))
  unwraps p len n xs large =
      qed 𝓛 (‵ (outer p len n xs) ∷ []) ∵ fsplit3 ! $ move ! (2 ∷ []) $
      rewrite ! 0 (λ (small : Bool). ‵ (way n p small)) (large_array R n large) refl $
      move ! (1 ∷ 2 ∷ 0 ∷ []) $ fjoin3 ! $ done !

  -- the same for the answer of `grow` or `shrink`
  pub wraps_result : (p : Ptr) (len old new : ℕ) (xs : List R.Denot)
      → 1024 < old * size (lone R.mir) → 1024 < new * size (lone R.mir) → (y : Bool) (b o : ℕ)
      → ent 𝓤 (sem 𝓛 (resized_if_ok t R p len old new xs (result_of y b o)))
      (sem 𝓛 (resized_if_ok (block_token t) R p len old new xs (result_of y b o)))
  wraps_result p len old new xs large large' true b o = wraps (block_ptr b o) len new xs large'
  wraps_result p len old new xs large large' false b o = wraps p len old xs large
