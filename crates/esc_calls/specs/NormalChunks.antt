-- The bytes that a normaliser in chunks was fed.
use Rattle.std.specs.Prelude.{ℕ, ◌≡◌, List, Some}
use Rattle.std.specs.Global.{Global}
use Rattle.esc_actions.specs.Meaning.{meaning, meaning_within}
use Rattle.esc_actions.specs.Texts.{normal}
use Rattle.esc_actions.specs.Writable.{AreWritable}
use Rattle.esc_normal.specs.Normalising.{HasConsumed, normal_form}
use Rattle.esc_calls.specs.InChunks.{Begins, Keeps}
use Rattle.esc_calls.specs.Kept.{normaliser_in}
use Rattle.esc_calls.specs.declared.in_chunks.InChunks.{InChunks}

-- it has begun, within this limit, and was fed these bytes
abbrev pub NormaliserHasConsumed : ℕ → List ℕ → InChunks → Type 0
NormaliserHasConsumed limit s = Keeps normaliser_in (HasConsumed {A = Global} (Some limit) s)

-- the normal form of a stream within this limit
abbrev pub normal_text : ℕ → List ℕ → List ℕ
normal_text limit = normal_form Global (Some limit)

-- The stream s has ended, and the normaliser is at the beginning of the next.
pub record FinishesNormal (limit : ℕ) (s : List ℕ) (p : InChunks) : Type 0 where
  -- the end adds nothing
  pub begun : Begins (NormaliserHasConsumed limit) p
  -- and if the meaning of s can be written, the text of s reads back as its normal list
  pub reads_back : AreWritable {A = Global} (meaning_within (Some limit) s)
      → meaning (normal_text limit s) ≡ normal {A = Global} (meaning_within (Some limit) s)
