-- A filter that is fed the revealed text of a stream.
use Rattle.std.specs.Prelude.{ℕ, ◌≡◌, List, ◌++◌}
use Rattle.esc_filter.specs.declared.admit.Admit.{Ghosts as Admitter}
use Rattle.esc_normal.specs.declared.feeding.StreamFilter.{Ghosts as Feeder}
use Rattle.caret_notation.specs.Fed.{HasConsumed, text_by, whole_by}
use Rattle.caret_notation.specs.declared.reveal.Reveal.{Reveal}
use Rattle.caret_notation.specs.declared.reveal.Rule.{Rule}

-- After a stream that the filter was fed, more of it adds to its text, and then so does its end:
-- nothing that was written is taken back.
pub record OnlyAdds {F A : Type 0} (G : Feeder F A) (m c : List ℕ → List ℕ) : Type 0 where
  pub more : (f : F) (s b : List ℕ) → G.gives f m c s
      → (t : List ℕ) × (m (s ++ b) ≡ m s ++ t)
  pub end : (f : F) (s b : List ℕ) → G.gives f m c s
      → (t : List ℕ) × (c (s ++ b) ≡ m (s ++ b) ++ t)

-- the texts of streams through this rule, if these are the filter's
abbrev pub through : {P A : Type 0} → Admitter P A → Rule P → (List ℕ → List ℕ) → List ℕ → List ℕ
through V rule m x = m (text_by V rule x)

abbrev pub through_whole : {P A : Type 0} → Admitter P A → Rule P → (List ℕ → List ℕ) → List ℕ
    → List ℕ
through_whole V rule c x = c (whole_by V rule x)

-- Both were fed this stream: the reveal itself, and the filter its revealed text. The text of a
-- stream is the filter's text of the revealed text.
pub record GivesThrough {F P A : Type 0} (G : Feeder F A) (V : Admitter P A) (reveal : Reveal P A)
    (filter : F) (m c : List ℕ → List ℕ) (s : List ℕ) : Type 0 where
  pub inner : List ℕ → List ℕ
  pub inner_end : List ℕ → List ℕ
  pub adds : OnlyAdds G inner inner_end
  pub fed : HasConsumed s reveal
  pub given : G.gives filter inner inner_end (text_by V reveal.rule s)
  pub goes_on : m ≡ through V reveal.rule inner
  pub ended : c ≡ through_whole V reveal.rule inner_end
