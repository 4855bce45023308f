-- The one proof that memory was refused. No file but that of `answered` may name this module.
use Rattle.fallible_alloc.specs.Refusals.{Refused}

pub library_refused : (A : Type 0) → Refused A
unfolding Refused
library_refused A = tt
