-- The ownership of a slot, and the right to give a block back.
use Rattle.std.specs.Prelude.{ℕ, ◌/◌, Bool, true, false, leb, List}
use mir.Syntax.{Ty, w128, ty_int, ty_array}
use mir.Val.{Val}
use prog.Memory.{size}
use base.Fraction.{full_share}
use base.Fml.{Lft, Fml, ffalse, fsep, fex, fwand}
use denote.RattleType.{RattleType}
use denote.Memory.{cell_at}
use denote.RawPtr.{Ptr, block_ptr, null_ptr, room_for}
use denote.Sharing.{said}
use denote.Hidden.{guarded}
use Rattle.caching_alloc.specs.Sizes.{block_size}

-- n bytes, as units of 16 that are aligned to 16
abbrev pub units_of : ℕ → Ty
units_of n = ty_array (ty_int w128) (n / 16)

-- P if the test holds, and else Q
abbrev pub either : Bool → Fml → Fml → Fml
either true P Q = P
either false P Q = Q

module _ (t : Ty → Ptr → Fml) where
  -- with the room for a τ at p, the block of n bytes there, and the right to give that back
  abbrev pub part_of_block : ℕ → Ty → Ptr → Fml
  part_of_block n τ p = fsep (fwand (room_for τ p) (room_for (units_of n) p)) (t (units_of n) p)

  -- the right to give the block for a τ at p back, if t is the right to give one back to the inner
  -- allocator
  abbrev pub block_token : Ty → Ptr → Fml
  block_token τ p = either (leb (size τ) 1024) (part_of_block (block_size (size τ)) τ p) (t τ p)

module _ (F : RattleType) (I : F.Denot → Fml) where
  -- fields for which I holds, in memory
  abbrev pub fields_with : ℕ → ℕ → Fml
  fields_with b o = fex (List Val) (λ vs. fsep (cell_at full_share F.mir vs b o)
      (fex F.Denot (λ i. fsep (F.own_val i vs) (I i))))

  -- they are reached with the thread's token, and I holds again afterwards
  abbrev pub behind_a_ref : Ptr → Lft → Fml
  behind_a_ref (block_ptr b o) = guarded (b, o) (fields_with b o)
  behind_a_ref null_ptr = said ffalse
