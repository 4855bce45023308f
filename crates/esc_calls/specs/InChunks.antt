-- The parts that the calls that take a stream in chunks have in common.
use Rattle.std.specs.Prelude.{ℕ, ◌≡◌, false, List, [], ◌++◌, Option, None, Some}
use Rattle.esc_calls.specs.Kept.{kept_text}
use Rattle.esc_calls.specs.declared.in_chunks.InChunks.{InChunks}
use Rattle.esc_calls.specs.declared.kept.Kept.{Kept}

-- it has not begun, or has ended
abbrev pub IsEnded : InChunks → Type 0
IsEnded p = p.is_begun ≡ false

-- it has begun, and keeps one of those that `found` finds, and P holds for it
abbrev pub Keeps : {T : Type 0} → (Option Kept → Option T) → (T → Type 0) → InChunks → Type 0
Keeps {T} found P p = (x : T) × (found p.held.kept ≡ Some x) × P x

-- it keeps none of those, as if it has not begun
abbrev pub KeepsNone : {T : Type 0} → (Option Kept → Option T) → InChunks → Type 0
KeepsNone found p = found p.held.kept ≡ None

-- the text of the kept state, and of none
abbrev pub text_in : Option Kept → List ℕ
text_in None = []
text_in (Some k) = kept_text k

-- the text that the last call added
abbrev pub text_of : InChunks → List ℕ
text_of p = text_in p.held.kept

-- it is at the beginning of a stream, if Fed s says that it was fed s
abbrev pub Begins : (List ℕ → InChunks → Type 0) → InChunks → Type 0
Begins Fed p = Fed [] p × (text_of p ≡ [])

-- It was fed b after s, if m is the text of a stream.
pub record Takes (Fed : List ℕ → InChunks → Type 0) (m : List ℕ → List ℕ) (s b : List ℕ)
    (p : InChunks) : Type 0 where
  pub fed : Fed (s ++ b) p
  -- its text is the text that b adds to that of s
  pub text : m (s ++ b) ≡ m s ++ text_of p

-- memory was refused: it has ended, and the text of s is the beginning of that of all bytes
pub record Breaks (m : List ℕ → List ℕ) (s b : List ℕ) (p : InChunks) : Type 0 where
  pub ended : IsEnded p
  pub beginning : (t : List ℕ) × (m (s ++ b) ≡ m s ++ t)

-- it keeps the same as before
pub record Stays (before after : InChunks) : Type 0 where
  pub kept : after.held.kept ≡ before.held.kept
  pub begun : after.is_begun ≡ before.is_begun
