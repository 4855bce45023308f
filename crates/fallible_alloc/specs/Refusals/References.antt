-- A request through a reference to an allocator is one to the allocator.
use denote.Bor.{Bor}
use Rattle.fallible_alloc.specs.Refusals.{Refused}

pub by_reference : (A : Type 0) → Refused (Bor A) → Refused A
unfolding Refused
by_reference A refused = refused
