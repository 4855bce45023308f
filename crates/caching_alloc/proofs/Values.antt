-- The machine value of a `Block`: its ownership tells it, and is made of nothing.
use Rattle.std.proofs.Common.{◌≡◌, Bool, true, false, T, ◌&&◌, List, [], ◌∷◌, ◌++◌, refl, ◌∙◌, lit<}
use seplogic.Ra.Ura.{Ura}
use mir.Syntax.{ty_ptr, ty_struct, tcons, tnil}
use mir.Val.{Val, vstruct, vcons, vnil, of_list}
use base.Logic.{ent, emp}
use base.Fml.{Fml}
use types.Logic.{Logic, sem}
use denote.RattleType.{RattleType}
use denote.RawPtr.{Ptr, RawPtr, block_ptr, null_ptr, ptr_val}
use denote.Shadow.{shadow, makes_shadow}
use denote.Struct.Struct.{Struct}
use Rattle.core.proofs.cell.Inside.{Good}

pub and_tt : (b : Bool) → T b → T (b && true)
and_tt true t = tt
and_tt false t = absurd t

-- a struct by its fields alone: its ownership does not read its name
abbrev pub plainly : List RattleType → RattleType
plainly Rs = Struct (record { name = []; args = []; types = []; fields = Rs })

pub ptr_typed : (p : Ptr) → Good ty_ptr (ptr_val p)
ptr_typed (block_ptr b o) = (tt, tt)
ptr_typed null_ptr = (tt, record { fits = lit< tt })

abbrev pub block_val : Ptr → Val
block_val p0 = vstruct (vcons (ptr_val p0) (vcons (vstruct vnil) vnil))

abbrev pub block_own : Ptr → List Val → Fml
block_own p0 = (plainly (RawPtr ∷ plainly [] ∷ [])).own_val (p0, (tt, tt))

pub block_told : (p0 : Ptr) (vs : List Val) → shadow (block_own p0 vs) → vs ≡ block_val p0 ∷ []
block_told p0 vs s = s.1.0 ∙ (λ i. vstruct (of_list (s.1.1.0 i ++ (s.1.1.1.0.1.0 i ++ []))) ∷ [])

pub block_made : {M : Type 1} {𝓤 : Ura M} (𝓛 : Logic 𝓤) (p0 : Ptr)
    → ent 𝓤 (emp 𝓤) (sem 𝓛 (block_own p0 (block_val p0 ∷ [])))
block_made 𝓛 p0 = makes_shadow 𝓛 (block_own p0 (block_val p0 ∷ [])) (λ _. (
  tt,
  (tt, ((λ _. (tt, tt)), tt)),
)) (
  (ptr_val p0 ∷ [], (vstruct vnil ∷ [], tt)),
  (refl, (refl, ((tt, (refl, tt)), tt))),
)

pub block_typed : (p0 : Ptr)
    → Good (ty_struct [] (tcons ty_ptr (tcons (ty_struct [] tnil) tnil))) (block_val p0)
block_typed (block_ptr b o) = (tt, (tt, (tt, tt)))
block_typed null_ptr = (tt, (record { fits = lit< tt }, (tt, tt)))
