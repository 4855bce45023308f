-- Filters, one before another.
use Rattle.std.specs.Prelude.{ℕ, ◌≡◌, List, []}
use Rattle.esc_decode.specs.Decodings.{OnlyAdds}
use Rattle.esc_normal.specs.declared.feeding.StreamFilter.{Ghosts as Feeder}
use Rattle.esc_sanitize.specs.declared.either.Either.{Either}
use Rattle.esc_sanitize.specs.declared.either.Either.TheVariants.{First, Second}

-- ---- one filter or another

abbrev pub gives_either : {F G A : Type 0} → Feeder F A → Feeder G A → Either F G
    → (List ℕ → List ℕ) → (List ℕ → List ℕ) → List ℕ → Type 0
gives_either V W (First f) m c s = V.gives f m c s
gives_either V W (Second f) m c s = W.gives f m c s

abbrev pub added_either : {F G A : Type 0} → Feeder F A → Feeder G A → Either F G → List ℕ
added_either V W (First f) = V.added f
added_either V W (Second f) = W.added f

abbrev pub ended_either : {F G A : Type 0} → Feeder F A → Feeder G A → Either F G
    → (List ℕ → List ℕ) → List ℕ → Type 0
ended_either V W (First f) c s = V.has_ended f c s
ended_either V W (Second f) c s = W.has_ended f c s

-- ---- at the beginning of a stream

-- the filter was fed nothing, and its texts are these, of a stream that goes on and of one that has
-- ended: more of a stream only adds to them
pub record Begins {F A : Type 0} (G : Feeder F A) (f : F) (m c : List ℕ → List ℕ) : Type 0 where
  pub going : List ℕ → List ℕ
  pub closed : List ℕ → List ℕ
  pub given : G.gives f going closed []
  pub adds : OnlyAdds going closed
  pub empty : going [] ≡ []
  pub goes_on : (s : List ℕ) → going s ≡ m s
  pub ends : (s : List ℕ) → closed s ≡ c s
