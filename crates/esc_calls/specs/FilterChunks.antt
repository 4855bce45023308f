-- The bytes that a filter in chunks was fed.
use Rattle.std.specs.Prelude.{ℕ, ◌≡◌, false, true, List, [], ◌++◌, Some}
use Rattle.std.specs.Global.{Global}
use Rattle.esc_filter.specs.Fed.{HasConsumed, policy_of}
use Rattle.esc_filter.specs.Passing.{IsFiltered, closed_text}
use Rattle.esc_filter.specs.Rules.{admits}
use Rattle.esc_filter.specs.declared.policy.Policy.{Policy}
use Rattle.esc_calls.specs.Filtered.{open_text}
use Rattle.esc_calls.specs.InChunks.{Keeps, Takes, text_of}
use Rattle.esc_calls.specs.Kept.{filter_in}
use Rattle.esc_calls.specs.declared.in_chunks.InChunks.{InChunks}

-- it has begun, within this limit and by this policy, and was fed these bytes
abbrev pub FilterHasConsumed : ℕ → Policy → List ℕ → InChunks → Type 0
FilterHasConsumed limit p s = Keeps filter_in
    (λ f. HasConsumed {A = Global} limit (admits p) s f × (policy_of f ≡ p))

-- the text of a stream that has ended
abbrev pub filtered_text : ℕ → Policy → List ℕ → List ℕ
filtered_text limit p = closed_text {A = Global} (Some limit) (admits p)

-- The filter, which was fed s, was fed b too.
pub record TakesFilter (limit : ℕ) (p : Policy) (s b : List ℕ) (f : InChunks) : Type 0 where
  pub taken : Takes (FilterHasConsumed limit p) (open_text limit p) s b f
  -- the whole text is that of the actions that pass, and reads back as these
  pub filtered : IsFiltered {A = Global} false (Some limit) (admits p) (s ++ b)
      (open_text limit p (s ++ b))

-- The stream s has ended, and the filter is at the beginning of the next.
pub record FinishesFilter (limit : ℕ) (p : Policy) (s : List ℕ) (f : InChunks) : Type 0 where
  pub fed : FilterHasConsumed limit p [] f
  -- its text undoes the changes that s left
  pub text : filtered_text limit p s ≡ open_text limit p s ++ text_of f
  -- and the whole text reads back as the actions that pass and those that undo their changes
  pub filtered : IsFiltered {A = Global} true (Some limit) (admits p) s (filtered_text limit p s)
