-- The text that a filter of the text of another adds.
use Rattle.std.proofs.Common.{ℕ, ◌≡◌, List, ◌++◌, ap, sym, ◌∙◌, append_assoc}
use Rattle.esc_normal.specs.declared.feeding.StreamFilter.{Ghosts as Feeder}
use Rattle.eschtml.specs.Piped.{Pipes}

module _ {F G A : Type 0} (V : Feeder F A) (W : Feeder G A) (f : F) (g : G)
    (m c : List ℕ → List ℕ) (s : List ℕ) (h : Pipes V W f g m c s) where
  goes_on : (x : List ℕ) → m x ≡ h.of_second (h.of_first x)
  goes_on x = ap (λ k. k x) h.goes_on

  ended : (x : List ℕ) → c x ≡ h.second_ended (h.first_ended x)
  ended x = ap (λ k. k x) h.ended

  -- if the first adds a, and the second adds t for that
  pub piped_more : (b a t : List ℕ) → h.of_first (s ++ b) ≡ h.of_first s ++ a
      → h.of_second (h.of_first s ++ a) ≡ h.of_second (h.of_first s) ++ t
      → m (s ++ b) ≡ m s ++ t
  piped_more b a t first second =
      goes_on (s ++ b) ∙ ap h.of_second first ∙ second ∙ ap (λ x. x ++ t) (sym (goes_on s))

  pub piped_longer : (b : List ℕ) → (a : List ℕ) × (h.of_first (s ++ b) ≡ h.of_first s ++ a)
      → (t : List ℕ) × (m (s ++ b) ≡ m s ++ t)
  piped_longer b (a, first) =
      let (t, second) = h.adds.more (h.of_first s) a in (t, piped_more b a t first second)

  -- the same at the end, if its end adds u
  pub piped_end : (a t u : List ℕ) → h.first_ended s ≡ h.of_first s ++ a
      → h.of_second (h.of_first s ++ a) ≡ h.of_second (h.of_first s) ++ t
      → h.second_ended (h.of_first s ++ a) ≡ h.of_second (h.of_first s ++ a) ++ u
      → c s ≡ m s ++ (t ++ u)
  piped_end a t u first second last =
      ended s ∙ ap h.second_ended first ∙ last ∙ ap (λ x. x ++ u) second
      ∙ append_assoc (h.of_second (h.of_first s)) t u
      ∙ ap (λ x. x ++ (t ++ u)) (sym (goes_on s))

  pub piped_end_longer : (a : List ℕ) × (h.first_ended s ≡ h.of_first s ++ a)
      → (t : List ℕ) × (c s ≡ m s ++ t)
  piped_end_longer (a, first) =
      let (t, second) = h.adds.more (h.of_first s) a in
      let (u, last) = h.adds.end (h.of_first s ++ a) in (t ++ u, piped_end a t u first second last)
