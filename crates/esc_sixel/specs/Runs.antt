-- The parameters of a command: those of its run of digits and `;`.
use Rattle.std.specs.Prelude.{ℕ, ◌+◌, ◌*◌, ◌<◌, ◌≡◌, ◌-◌, ◌==◌, min, if◌then◌else◌, List, [], ◌∷◌, get_or, set, Option, Some, None, option_map, unwrap_or}
use Rattle.esc_values.specs.Params.{capped_at_i64}
use Rattle.esc_sixel.specs.declared.parameters.Parameters.{Parameters}

-- The numbers of the slices between `;`, none for an empty slice. The first slice goes on one that
-- began before the run, if it had digits; n is its number.
abbrev pub numbers_after : Option ℕ → List ℕ → List (Option ℕ)
numbers_after n [] = n ∷ []
numbers_after n (b ∷ bs) = if b == 0x3b then n ∷ numbers_after None bs else numbers_after
    (Some (10 * unwrap_or n 0 + (b - 0x30))) bs

-- parameter k of a run, the first being 0, at most the greatest number of 64 bits with a sign; none
-- if it is missing or empty
abbrev pub param : List ℕ → ℕ → Option ℕ
param run k = option_map capped_at_i64 (get_or (numbers_after None run) k None)

-- how many `;` it has
abbrev pub separators : List ℕ → ℕ
separators [] = 0
separators (b ∷ bs) = if b == 0x3b then separators bs + 1 else separators bs

-- the first five parameters of the run, and how many `;` it has, up to five
pub record Keeps (p : Parameters) (run : List ℕ) : Type 0 where
  pub values : (k : ℕ) → k < 5 → get_or p.values k None ≡ param run k
  pub count : p.count ≡ min (separators run) 5

-- the parameters with one more digit of the one that is being read, the last; and with more
abbrev pub more_digit : Parameters → ℕ → Parameters
more_digit p b = record {
  values = set p.values p.count
      (Some (capped_at_i64 (10 * unwrap_or (get_or p.values p.count None) 0 + (b - 0x30))));
  count = p.count;
}

abbrev pub more_digits : Parameters → List ℕ → Parameters
more_digits p [] = p
more_digits p (b ∷ bs) = more_digits (more_digit p b) bs
