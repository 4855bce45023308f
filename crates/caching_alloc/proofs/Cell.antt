-- The value in a `Slot` is one machine value, and is reached through a `&` with the thread's token.
-- Assumes `Logic`.
use Rattle.std.proofs.Common.{◌≡◌, ℕ, List, [], ◌∷◌, IfSome, None, Some, T, refl}
use seplogic.Ra.Ura.{Ura}
use mir.Syntax.{Ty}
use mir.Val.{Val}
use base.Fraction.{full_share}
use base.Logic.{sep, wand, apply∗}
use base.Fml.{Lft, Share, Fml, Incl-refl, ftrue, fsep, fex, fat, flft, ftok}
use base.Mask.{every, less}
use types.Logic.{Logic, sem}
use types.Kit.{Item, Goal, Seq, Step, Soaks, step, ‵, raw, ◌⊛◌, later, ◌$◌, move, drop, use1, use2, use3, split, join, fsplit, fjoin, fpick, fpack, rewrite, await}
use types.Na.{na_acc_in}
use denote.RattleType.{RattleType}
use denote.Param.Laws.{Laws, param_laws}
use denote.Exit.{Last, left, yes}
use denote.Param.Mute.{blank}
use denote.Laws.{Lawful}
use denote.Memory.{cell_at, hidden_shr, lone}
use denote.Opens.{unhide}
use denote.Param.{layout, param}
use denote.Steps.{nothing}
use denote.Struct.Members.{Member}
use Rattle.core.specs.contracts.option.Option as option
use Rattle.core.proofs.option.Option.TheLaws.{the_row_laws as option_laws}
use Rattle.core.proofs.cell.Inside.{Good, round, wraps, unwraps}
use Rattle.std.specs.declared.alloc.Allocator.{Ghosts}
use Rattle.caching_alloc.specs.Ownership.{fields_with}
use Rattle.caching_alloc.specs.contracts.block.Block as block
use Rattle.caching_alloc.specs.contracts.slot.Slot as slot
use Rattle.caching_alloc.specs.contracts.slot.Slot.TheInside as inside
use Rattle.caching_alloc.proofs.block.Block.TheLaws as block_laws

module _ (Z : RattleType) (g : Ghosts Z.Denot) where
  abbrev pub Held : RattleType
  Held = option.the_row (block.the_row Z g)

  abbrev held : Member
  held = record { row = Held; ty = layout Held }

  abbrev pub Fields : RattleType
  Fields = inside.the_row Z g

  abbrev pub slot_type : Ty
  slot_type = lone Fields.mir

  abbrev pub Over : Z.Denot × ℕ → Held.Denot → Type 0
  Over s x = IfSome x (λ b. (b.alloc ≡ s.0) × (b.size ≡ s.1))

  abbrev over : Z.Denot × ℕ → Fields.Denot → Fml
  over s i = fex (Over s i.block) (λ _. ftrue)

  abbrev pub contents : Z.Denot × ℕ → List Val → Fml
  contents s vs = fex Fields.Denot (λ i. fsep (Fields.own_val i vs) (over s i))

  pub quiet : (x : Held.Denot) (f : Last (Held.exit yes) x) → T (blank (left (Held.exit yes) x f))
  quiet None f = tt
  quiet (Some b) f = tt

module _ (A : RattleType) (L : Laws A) (g : Ghosts A.Denot) where
  abbrev Z : RattleType
  Z = param 0 A

  pub held_Lawful : {M : Type 1} {𝓤 : Ura M} (𝓛 : Logic 𝓤) → Lawful 𝓛 (Held Z g)
  held_Lawful 𝓛 = (option_laws (block.the_row Z g) (block_laws.the_row_laws Z g
      (param_laws 0 A L))).lawful 𝓛

  abbrev pub Shut : {M : Type 1} {𝓤 : Ura M} (𝓛 : Logic 𝓤) → Z.Denot × ℕ → ℕ → ℕ → Lft → Share
      → Item 𝓤
  Shut {𝓤 = 𝓤} 𝓛 s b o κ q =
      ‵ (ftok (less every (b, o)))
      ⊛ raw (wand 𝓤 (sep 𝓤 (sem 𝓛 (fields_with (Fields Z g) (over Z g s) b o))
      (𝓛.A.tok (less every (b, o)))) (𝓛.H.⇛ (sep 𝓤 (𝓛.A.lft κ q) (𝓛.A.tok every))))

  module _ {M : Type 1} {𝓤 : Ura M} {𝓛 : Logic 𝓤} {K : Type 0} {Γ : List (Item 𝓤)} {G : Goal 𝓤 𝓛.H}
      (s : Z.Denot × ℕ) where
    open 𝓛 use {H}

    pub contents_out : K → (vs : List Val) → ((x : (Held Z g).Denot) (v : Val) → Over Z g s x
        → Good (layout (Held Z g)) v → vs ≡ round v ∷ []
        → Seq K 𝓛 (‵ ((Held Z g).own_val x (v ∷ [])) ∷ Γ) G) → Seq K 𝓛 (‵ (contents Z g s vs) ∷ Γ) G
    contents_out t vs k = fpick t (λ i. fsplit t $ move t (1 ∷ []) $
        fpick t (λ is. drop t $
        unwraps (held Z g) t (held_Lawful 𝓛) [] [] i.block vs (λ v typed e. k i.block v is typed
        e)))

    pub contents_in : K → (x : (Held Z g).Denot) (v : Val) → Over Z g s x
        → Step K 𝓛 (‵ (contents Z g s (round v ∷ [])) ∷ Γ) G (‵ ((Held Z g).own_val x (v ∷ []))
        ∷ Γ) G
    contents_in t x v is = step (λ k.
        let i : (Fields Z g).Denot = record { block = x } in
        use1 𝓛 (‵ ((Fields Z g).own_val i (round v ∷ []))) (wraps (held Z g) 𝓛 [] [] x v) $
        nothing t $ fpack t (Over Z g s x) (λ _. ftrue) is $ move t (1 ∷ 0 ∷ []) $ fjoin t $
        fpack t (Fields Z g).Denot (λ j. fsep ((Fields Z g).own_val j (round v
        ∷ [])) (over Z g s j)) i $ k)

  module _ {M : Type 1} {𝓤 : Ura M} {𝓛 : Logic 𝓤} {K : Type 0} {Γ : List (Item 𝓤)} {G : Goal 𝓤 𝓛.H}
      (s : Z.Denot × ℕ) (b o : ℕ) where
    open 𝓛 use {H}

    pub opens_slot : K → Soaks G → {κ : Lft} {q : Share}
        → ((x : (Held Z g).Denot) (v : Val) → Over Z g s x → Good (layout (Held Z g)) v
        → Seq K 𝓛 (‵ (fat full_share (slot_type Z g) b o (round v))
        ∷ ‵ ((Held Z g).own_val x (v ∷ [])) ∷ Shut 𝓛 s b o κ q ∷ Γ) G)
        → Seq K 𝓛 (‵ (hidden_shr (slot.the_row Z g) κ s b o) ∷ ‵ (flft κ q) ∷ ‵ (ftok every) ∷ Γ) G
    opens_slot t z {κ} {q} k =
        let P : Fml = fields_with (Fields Z g) (over Z g s) b o in
        unhide t $
        use3 𝓛 (later (‵ P ⊛ Shut 𝓛 s b o κ q)) (na_acc_in 𝓛 κ ((κ, q) ∷ []) every (
          b,
          o,
        ) P (Incl-refl κ) refl) $ await t z $ split t $
        fpick t (λ vs. fsplit t $ move t (1 ∷ []) $ contents_out s t vs (λ x v is typed e.
        rewrite t 1 (λ (us : List Val). ‵ (cell_at full_share (Fields Z g).mir us b o)) e refl $
        move t (1 ∷ []) $
        use1 𝓛 (‵ (fat full_share (slot_type Z g) b o (round v)))
        (𝓛.laws.raw_at full_share (slot_type Z g) b o (round v)) $ k x v is typed))

    pub shuts_slot : K → Soaks G → {κ : Lft} {q : Share} (x : (Held Z g).Denot) (v : Val)
        → Over Z g s x
        → Step K 𝓛 (‵ (flft κ q) ∷ ‵ (ftok every)
        ∷ Γ) G (‵ (fat full_share (slot_type Z g) b o (round v)) ∷ ‵ ((Held Z g).own_val x (v ∷ []))
        ∷ Shut 𝓛 s b o κ q ∷ Γ) G
    shuts_slot t z {κ} {q} x v is = step (λ k.
        let P : Fml = fields_with (Fields Z g) (over Z g s) b o in
        use1 𝓛 (‵ (cell_at full_share (Fields Z g).mir (round v
        ∷ []) b o)) (𝓛.laws.at_raw full_share (slot_type Z g) b o (round v)) $ move t (1 ∷ []) $
        contents_in s t x v is $ move t (1 ∷ 0 ∷ []) $ fjoin t $
        fpack t (List Val) (λ us. fsep (cell_at full_share (Fields Z g).mir us b o)
        (contents Z g s us)) (round v ∷ []) $ move t (1 ∷ []) $ split t $ move t (2 ∷ 0 ∷ []) $
        join t $
        use2 𝓛 (later (‵ (flft κ q)
        ⊛ ‵ (ftok every))) (apply∗ 𝓤 (sep 𝓤 (sem 𝓛 P) (𝓛.A.tok (less every (
          b,
          o,
        )))) (H.⇛ (sep 𝓤 (𝓛.A.lft κ q) (𝓛.A.tok every)))) $ await t z $ split t $ k)
