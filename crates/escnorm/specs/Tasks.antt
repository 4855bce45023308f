-- The task that the program's words ask for.
use Rattle.std.specs.Prelude.{ℕ, ◌≡◌, ◌≢◌, ◌<◌, IfSome, nat_eq, if◌then◌else◌, List, [], ◌∷◌, codes, Option, Some, None}
use Rattle.std.specs.Cmp.Lexicographic.{pointwise}
use Rattle.std.specs.Option.{option_map}
use Rattle.std.specs.Io.KnownBytes.{Appends, IsAtEnd}
use Rattle.esc_actions.specs.Meaning.{meaning_within}
use Rattle.esc_actions.specs.Texts.{list_text}
use Rattle.esc_values.specs.Scalars.{number_of}
use Rattle.escnorm.specs.declared.task.Task.{Task}
use Rattle.escnorm.specs.declared.task.Task.TheVariants.{Normalise, Check}

-- `--limit` and a number of 64 bits
abbrev pub limit_of : List (List ℕ) → Option ℕ
limit_of [] = None
limit_of (w ∷ []) = None
limit_of (v ∷ w ∷ []) = if pointwise nat_eq v (codes "--limit") then number_of 64 w else None
limit_of (u ∷ v ∷ w ∷ ws) = None

-- the words after `--check`
abbrev pub check_of : List (List ℕ) → Option Task
check_of [] = Some (Check None)
check_of (w ∷ ws) = option_map (λ n. Check (Some n)) (limit_of (w ∷ ws))

-- no words; `--check`; and after either `--limit` and a number
abbrev pub task_of : List (List ℕ) → Option Task
task_of [] = Some (Normalise None)
task_of (w ∷ ws) = if pointwise nat_eq w (codes "--check") then check_of ws else option_map (λ n.
    Normalise (Some n)) (limit_of (w ∷ ws))

-- the status n after a check of the bytes s under this limit: 0 if they are their own normal form,
-- 3 if they are not, 1 if a fault came in between
pub record IsVerdict (A : Type 0) (limit : Option ℕ) (s : List ℕ) (n : ℕ) : Type 0 where
  pub equal : n ≡ 0 → list_text (meaning_within {A = A} limit s) ≡ s
  pub different : n ≡ 3 → list_text (meaning_within {A = A} limit s) ≢ s
  pub others : n ≢ 0 → n ≢ 3 → n ≡ 1

-- the status n after normalising under this limit: 0 if all was read and its normal form was
-- written, and otherwise 1
pub record IsNormalised (A : Type 0) (limit : Option ℕ) (stream left before after : Option (List ℕ))
    (n : ℕ)
    : Type 0 where
  pub status : n < 2
  pub read : n ≡ 0 → IsAtEnd left
  pub written : n ≡ 0
      → IfSome stream (λ s. Appends before after (list_text (meaning_within {A = A} limit s)))
