-- The value that is kept after a pointer.
use base.Fml.{Fml, ftrue}
use base.Stored.{Coded}
use denote.RawPtr.{Ptr}
use Rattle.std.specs.Prelude.{Bool, true, false, Option, None, Some}
use Rattle.std.specs.Box.Ownership.{box_owns}
use Rattle.std.specs.Coded.{coded_option}
use Rattle.std_heap.specs.contracts.GlobalAllocator.TheImpl.{ghosts}
use Rattle.std_heap.specs.declared.Global.{Global}
use Rattle.esc_calls.specs.contracts.kept.Kept.{the_row}

-- the global allocator, as a value
abbrev pub heap : Global
heap = record { memory = record { seal = tt } }

-- a block of the global allocator with the kept value, and the right to free it; or nothing
abbrev pub held_owns : Ptr → Option the_row.Denot → Fml
held_owns p None = ftrue
held_owns p (Some kept) = box_owns (ghosts.dealloc_token heap) the_row p kept

-- the way in which the logic stores the kept value, or none
abbrev pub kept_coded : Coded (Option the_row.Denot)
kept_coded = coded_option the_row.coded

-- whether there is one
abbrev pub is_there : {T : Type 0} → Option T → Bool
is_there None = false
is_there (Some x) = true
