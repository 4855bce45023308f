-- A filter of the text of another.
use Rattle.std.specs.Prelude.{ℕ, ◌≡◌, List, []}
use Rattle.esc_decode.specs.Decodings.{OnlyAdds}
use Rattle.esc_normal.specs.declared.feeding.StreamFilter.{Ghosts as Feeder}

-- this holds for the texts that a filter gives, which was fed nothing; nothing has no text, and
-- more of a stream only adds to its text
abbrev pub NewAdding : {F A : Type 0} → Feeder F A → F
    → ((List ℕ → List ℕ) → (List ℕ → List ℕ) → Type 0) → Type 0
NewAdding V f C = (m c : List ℕ → List ℕ) → V.gives f m c [] → m [] ≡ [] → OnlyAdds m c → C m c

-- one after the other
abbrev pub composition : (List ℕ → List ℕ) → (List ℕ → List ℕ) → List ℕ → List ℕ
composition g f s = g (f s)

-- The first was fed this stream, and the second its text: the text of both is the text of the
-- second for the text of the first.
pub record Pipes {F G A : Type 0} (V : Feeder F A) (W : Feeder G A) (f : F) (g : G)
    (m c : List ℕ → List ℕ) (s : List ℕ) : Type 0 where
  pub of_first : List ℕ → List ℕ
  pub first_ended : List ℕ → List ℕ
  pub of_second : List ℕ → List ℕ
  pub second_ended : List ℕ → List ℕ
  pub adds : OnlyAdds of_second second_ended
  pub first : V.gives f of_first first_ended s
  pub second : W.gives g of_second second_ended (of_first s)
  pub goes_on : m ≡ composition of_second of_first
  pub ended : c ≡ composition second_ended first_ended
