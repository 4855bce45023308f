-- The two cases of the answer of `take`. Assumes `Logic`.
use Rattle.std.proofs.Common.{◌≡◌, ℕ, List, [], ◌∷◌, ◌++◌, IfSome, None, Some, refl, ap, ◌∙◌}
use seplogic.Ra.Ura.{Ura}
use mir.Val.{Val, vcons, vnil, of_list}
use base.Logic.{never, fst∗}
use base.Fml.{froom}
use types.Logic.{Logic, sem}
use types.Kit.{Item, Goal, Seq, ‵, ◌$◌, move, drop, rewrite, fsplit, fpick, feq_l}
use types.Match.{live}
use denote.RattleType.{RattleType}
use denote.RawPtr.{block_ptr, null_ptr, in_a_block}
use denote.Shadow.{pure_l}
use denote.Steps.{only}
use Rattle.core.specs.Allocator.{owned_block}
use Rattle.core.specs.contracts.option.Option as option
use Rattle.std.specs.declared.alloc.Allocator.{Ghosts}
use Rattle.caching_alloc.specs.Sizes.{block_size}
use Rattle.caching_alloc.specs.Ownership.{units_of}
use Rattle.caching_alloc.specs.contracts.block.Block as block
use Rattle.caching_alloc.proofs.Values.{block_val, block_own, block_told}

module _ (Z : RattleType) (g : Ghosts Z.Denot) where
  abbrev pub Taken : RattleType
  Taken = option.the_row (block.the_row Z g)

  abbrev pub Told : Z.Denot → ℕ → Taken.Denot → Type 0
  Told h n x = IfSome x (λ b. (b.alloc ≡ h) × (b.size ≡ block_size n))

  module _ {M : Type 1} {𝓤 : Ura M} {𝓛 : Logic 𝓤} {K : Type 0} {Γ : List (Item 𝓤)} {G : Goal 𝓤 𝓛.H}
    where
      pub taken : K → (h : Z.Denot) (n : ℕ) (x : Taken.Denot) (v : Val) → Told h n x
          → ((b o : ℕ) → v ≡ live 1 (vcons (block_val (block_ptr b o)) vnil)
          → Seq K 𝓛 (‵ (froom (units_of (block_size n)) b o)
          ∷ ‵ (g.dealloc_token h (units_of (block_size n)) (block_ptr b o)) ∷ Γ) G)
          → (v ≡ live 0 vnil → Seq K 𝓛 Γ G) → Seq K 𝓛 (‵ (Taken.own_val x (v ∷ [])) ∷ Γ) G
      taken t h n None v told some none =
          fpick t (λ us. fsplit t $
          feq_l t (λ is. fpick t (λ vss. fsplit t $
          feq_l t (λ is'. drop t $
          none (ap only is ∙ ap (λ (ws : List Val). live 0 (of_list ws)) is')))))
      taken t h n (Some w) v told some none =
          fpick t (λ us. fsplit t $
          feq_l t (λ is. fpick t (λ vss. fsplit t $ feq_l t (λ is'. fsplit t $ move t (1 ∷ []) $
          drop t $ fsplit t $ pure_l t (block_own w.ptr vss.0) (λ s.
          rewrite t 0 (λ (u : Z.Denot × ℕ). ‵ (owned_block (g.dealloc_token u.0) (units_of u.1)
          w.ptr)) (λ i. (told.0 i, told.1 i)) refl $
          in_a_block t w.ptr (λ r. owned_block (g.dealloc_token h) (units_of (block_size n)) r)
          (fst∗ 𝓤 (never 𝓤) (sem 𝓛 (g.dealloc_token h (units_of (block_size n)) null_ptr)))
          (λ b o placed.
          fsplit t $ some b o
          (ap only is ∙ ap (λ (xs : List Val). live 1 (of_list xs))
          (is' ∙ ap (λ (xs : List Val). xs ++ []) (block_told w.ptr vss.0 s)) ∙
          (λ i. live 1 (vcons (block_val (placed i)) vnil)))))))))
