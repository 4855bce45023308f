-- The rest of the lines of a text that comes in chunks.
use Rattle.std.specs.Prelude.{ℕ, ◌≡◌, List, [], Option, Some, None, string_bytes}
use Rattle.line_collapse.specs.Fed.{HasConsumed, added_by}
use Rattle.line_collapse.specs.Windows.{Size}
use Rattle.esc_sanitize.specs.declared.left.Left.{Left}
use Rattle.esc_sanitize.specs.declared.left.Left.TheVariants as left
use Rattle.fallible_alloc.specs.Refusals.{Refused}

-- it took this text, and writes the rows that this screen leaves of it, or all of it; or memory
-- was refused
abbrev pub HasLeft : {A : Type 0} → Option Size → List ℕ → Left A → Type 0
HasLeft r u left.All = r ≡ None
HasLeft r u (left.Rows a c) = (z : Size) × (r ≡ Some z) × HasConsumed z u c
HasLeft r u (left.Last t n) = ⊥
HasLeft {A} r u left.Refused = Refused A

-- the text that the last call added, which took this text
abbrev pub left_added : {A : Type 0} → Left A → List ℕ → List ℕ
left_added left.All t = t
left_added (left.Rows a c) t = added_by c
left_added (left.Last x n) t = string_bytes x
left_added left.Refused t = []

-- how much of a text that has ended stands in no row, if that is counted
abbrev pub left_lost : {A : Type 0} → Left A → ℕ
left_lost (left.Last x n) = n
left_lost _ = 0
