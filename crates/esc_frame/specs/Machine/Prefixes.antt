-- The prefix that a value of the code is.
use Rattle.std.specs.Prelude.{ℕ, List, [], ◌∷◌}
use Rattle.esc_frame.specs.declared.utf8.sequence.Pending.{Pending}
use Rattle.esc_frame.specs.declared.utf8.sequence.Pending.TheVariants.{Nothing, One, Two, Three}

abbrev pub prefix_of : Pending → List ℕ
prefix_of Nothing = []
prefix_of (One a) = a ∷ []
prefix_of (Two a b) = a ∷ b ∷ []
prefix_of (Three a b c) = a ∷ b ∷ c ∷ []
