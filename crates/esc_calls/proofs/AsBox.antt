-- The ownership of a block is that of a box at the same types.
use Rattle.std.proofs.Common.{◌≡◌, ℕ, List, [], ◌∷◌, ◌++◌, Option, Some, None, refl, subst}
use mir.Syntax.{impl, tnil, dnil}
use mir.Raw.{raw as bare}
use mir.Val.{Val, vptr, vstruct, vcons, vnil, of_list}
use seplogic.Ra.Ura.{Ura}
use base.Logic.{never, fst∗}
use types.Logic.{Logic, sem}
use types.Kit.{Item, Goal, Seq, Step, step, ‵, ◌$◌, drop, fsplit, fjoin, fpick, fpack, rewrite, feq_i, feq_l}
use denote.RattleType.{RattleType, Valss}
use denote.Builtin.{RawPtr}
use denote.Memory.{lone}
use denote.RawPtr.{Ptr, block_ptr, null_ptr, ptr_val, in_a_block}
use denote.Signature.{Slot, plain}
use denote.Steps.{nothing}
use denote.Struct.Struct.{within}
use denote.Struct.Owning.{shape}
use Rattle.std_alloc.specs.Box.Ownership.{box_owns}
use Rattle.std_alloc.proofs.BoxSteps.Form.{Bx}
use Rattle.std_heap.specs.contracts.Global as Heap
use Rattle.std_heap.specs.contracts.GlobalAllocator.TheImpl.{ghosts, dict}
use Rattle.std_heap.proofs.Global.TheLaws as heap
use Rattle.esc_calls.specs.Held.{heap as allocator, held_owns}
use Rattle.esc_calls.specs.contracts.held.Held as held
use Rattle.esc_calls.specs.contracts.parts.Parts as parts
use Rattle.esc_calls.specs.contracts.kept.Kept as kept
use Rattle.esc_calls.proofs.kept.Kept.TheLaws as laws

abbrev pub E : Bx
E = record {
  row = kept.the_row;
  laws = laws.the_row_laws;
  al = record {
    row = Heap.the_row;
    laws = heap.the_row_laws;
    g = ghosts;
    d = dict;
    drops = impl [] tnil dnil;
  };
}

abbrev pub R : RattleType
R = kept.the_row

abbrev pub Held : RattleType
Held = held.the_row

abbrev pub Parts : RattleType
Parts = parts.the_row kept.the_row Heap.the_row ghosts

abbrev pub FromParts : Slot 0
FromParts = plain (λ _. Parts)

abbrev pub FromHeld : Slot 0
FromHeld = plain (λ _. Held)

-- the machine value of a block at this pointer
abbrev pub word : Val → Val
word p = vstruct (vcons p vnil)

module _ {M : Type 1} {𝓤 : Ura M} {𝓛 : Logic 𝓤} {K : Type 0} {Γ : List (Item 𝓤)} {G : Goal 𝓤 𝓛.H}
  where
    -- a block is taken apart
    pub held_out : K → (d : Held.Denot) (x : R.Denot) (vs : List Val) → d.kept ≡ Some x
        → ((b o : ℕ) → d.at ≡ block_ptr b o → vs ≡ word (vptr b o) ∷ []
        → Seq K 𝓛 (‵ (box_owns (ghosts.dealloc_token allocator) R (block_ptr b o) x) ∷ Γ) G)
        → Seq K 𝓛 (‵ (Held.own_val d vs) ∷ Γ) G
    held_out t d x vs is k =
        fsplit t $ fpick t (λ vss. fsplit t $ feq_l t (λ ev. fsplit t $ feq_l t (λ ep. drop t $
        rewrite t 0 (λ (s : Option R.Denot). ‵ (held_owns d.at s)) is refl $
        in_a_block t d.at (λ p. box_owns (ghosts.dealloc_token allocator) R p x)
        (fst∗ 𝓤 (never 𝓤) (sem 𝓛 (ghosts.dealloc_token allocator (bare (lone
        R.mir)) null_ptr))) (λ b o e. k b o e
        (subst (λ (p : Ptr). vs ≡ vstruct (of_list (ptr_val p ∷ [])) ∷ []) e
        (subst (λ (ps : List Val). vs ≡ vstruct (of_list (ps ++ [])) ∷ []) ep ev))))))

    -- and is put together
    pub held_in : K → (b o : ℕ) (x : R.Denot)
        → Step K 𝓛
        (‵ (Held.own_val (record { at = block_ptr b o; kept = Some x }) (word (vptr b o) ∷ []))
        ∷ Γ) G
        (‵ (box_owns (ghosts.dealloc_token allocator) R (block_ptr b o) x) ∷ Γ) G
    held_in t b o x = step (λ s.
        nothing t $ feq_i t (List Val) (vptr b o ∷ []) (vptr b o ∷ []) refl $ fjoin t $
        feq_i t (List Val) (word (vptr b o) ∷ []) (word (vptr b o) ∷ []) refl $ fjoin t $
        fpack t (Valss (RawPtr ∷ []))
        (within (shape held.the_type) (block_ptr b o, tt) (word (vptr b o) ∷ []))
        (vptr b o ∷ [], tt) $
        fjoin t $ s)

    -- no block
    pub held_none : K → (p : Ptr)
        → Step K 𝓛
        (‵ (Held.own_val (record { at = p; kept = None }) (word (ptr_val p) ∷ [])) ∷ Γ) G Γ G
    held_none t p = step (λ s.
        nothing t $ nothing t $
        feq_i t (List Val) (ptr_val p ∷ []) (ptr_val p ∷ []) refl $ fjoin t $
        feq_i t (List Val) (word (ptr_val p) ∷ []) (word (ptr_val p) ∷ []) refl $ fjoin t $
        fpack t (Valss (RawPtr ∷ [])) (within (shape held.the_type) (p, tt) (word (ptr_val p) ∷ []))
        (ptr_val p ∷ [], tt) $
        fjoin t $ s)
